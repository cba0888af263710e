use Rattle.std.proofs.Common.{◌+◌, length}
use Rattle.stage_checks.specs.Spreading.{unset, Spreading, AreSourced}
use Rattle.stage_checks.proofs.spreading.spread.Given as goal

abbrev pub invariant-going : goal.invariant-going
invariant-going l = record {
  spreading : Spreading l.next l.sources l.rank l.table.items l.work.items;
  sourced : AreSourced l.sources l.rank l.table.items;
}

abbrev pub decreases-going : goal.decreases-going
decreases-going l = unset l.table.items + length l.work.items
