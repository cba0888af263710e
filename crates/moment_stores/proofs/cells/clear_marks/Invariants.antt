-- Only cells of the touches that are left have marks.
use Rattle.std.proofs.Common.{◌≡◌, ℕ, true, drop, length, map}
use Rattle.moment_stores.specs.Rows.{rows, mark_at}
use Rattle.moment_stores.specs.Cells.{is_touched}
use Rattle.moment_stores.proofs.cells.clear_marks.Given as goal

abbrev pub invariant-each : goal.invariant-each
invariant-each l = record {
  same : map length (rows l.marks) ≡ map length (rows l.fn.marks);
  marked : (array index : ℕ) → mark_at (rows l.marks) array index ≡ true → is_touched (drop l.touch-index l.touches) array index ≡ true;
}
