use Rattle.std.proofs.Common.{◌≡◌, length}
use Rattle.least_fixed_points.specs.Settles.{missing, IsSound}
use Rattle.least_fixed_points.proofs.rounds.settle_along.Given as goal

abbrev pub invariant-rounds : goal.invariant-rounds
invariant-rounds g l = record {
  count : length l.table.items ≡ l.count;
  sound : IsSound (g.R.Rule.step l.rule) l.table.items;
}

abbrev pub decreases-rounds : goal.decreases-rounds
decreases-rounds g l = missing l.table.items
