use Rattle.std.proofs.Common.{◌≡◌, length}
use Rattle.std.specs.List.{AllByRecursion}
use Rattle.lisa_activation.specs.Columns.{IsBare}
use Rattle.lisa_activation.proofs.makes.bare_columns.Given as goal

abbrev pub invariant-loop-place : goal.invariant-loop-place
invariant-loop-place l = record {
  bare : AllByRecursion IsBare l.columns.items;
  count : length l.columns.items ≡ l._place;
}
