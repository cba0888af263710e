use Rattle.std.proofs.Common.{◌≡◌, ℕ, length, false}
use Rattle.graph_paths.specs.Paths.{is_in, targets}
use Rattle.stage_checks.proofs.running.empty_rows.Given as goal

abbrev pub invariant-loop-row : goal.invariant-loop-row
invariant-loop-row l = record {
  count : length l.rows.items ≡ l._row;
  none : (x y : ℕ) → is_in y (targets l.rows.items x) ≡ false;
}
