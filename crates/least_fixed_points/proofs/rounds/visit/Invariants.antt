use Rattle.std.proofs.Common.{◌≡◌, length}
use Rattle.least_fixed_points.specs.Settles.{IsSound}
use Rattle.least_fixed_points.proofs.rounds.visit.Given as goal

abbrev pub invariant-loop-node : goal.invariant-loop-node
invariant-loop-node g l = record {
  count : length l.table.items ≡ length l.fn.table.items;
  sound : IsSound (g.R.Rule.step l.rule) l.table.items;
}
