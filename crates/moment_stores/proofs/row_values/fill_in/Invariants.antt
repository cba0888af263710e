-- The rows before are filled.
use Rattle.std.proofs.Common.{◌≡◌, ◌<◌, ℕ}
use Rattle.moment_stores.specs.Rows.{rows, value_at, IsTable}
use Rattle.moment_stores.proofs.row_values.fill_in.Given as goal

abbrev pub invariant-each : goal.invariant-each
invariant-each g l = record {
  shape : IsTable l.count l.width (rows l.all);
  filled : (row place : ℕ) (d : g.row.T.Denot) → row < l.row → place < l.width → value_at (rows l.all) row place d ≡ l.value;
}
