use Rattle.std.proofs.Common.{◌≡◌, ◌<◌, ℕ, length}
use Rattle.least_fixed_points.specs.Settles.{entry}
use Rattle.meant_declarations.specs.Walks.{found_value}
use Rattle.meant_declarations.proofs.differing.found_values.Given as goal

abbrev pub invariant-loop-number : goal.invariant-loop-number
invariant-loop-number g l = record {
  count : length l.all.items ≡ l.number-index;
  values : (i : ℕ) → i < l.number-index → entry l.all.items i ≡ found_value (entry l.values) (entry l.found i);
}
