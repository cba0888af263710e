use Rattle.std.proofs.Common.{◌≤◌, [], length}
use Rattle.stage_checks.specs.Spreading.{Spreading, AreSourced}
use Rattle.stage_checks.proofs.spreading.greatest.Given as goal

abbrev pub invariant-loop-rank : goal.invariant-loop-rank
invariant-loop-rank l = record {
  range : l.rank ≤ length l.sources;
  spreading : Spreading l.next l.sources l.rank l.table.items [];
  sourced : AreSourced l.sources l.rank l.table.items;
}

abbrev pub decreases-loop-rank : goal.decreases-loop-rank
decreases-loop-rank l = l.rank
