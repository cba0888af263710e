-- The places before are filled, and other rows are as they were.
use Rattle.std.proofs.Common.{◌≡◌, ◌≢◌, ◌<◌, ℕ}
use Rattle.moment_stores.specs.Rows.{rows, value_at, IsTable}
use Rattle.moment_stores.proofs.row_values.fill_row.Given as goal

abbrev pub invariant-each : goal.invariant-each
invariant-each g l = record {
  shape : IsTable l.count l.width (rows l.all);
  here : (place : ℕ) (d : g.row.T.Denot) → place < l.place → value_at (rows l.all) l.row place d ≡ l.value;
  others : (other place : ℕ) (d : g.row.T.Denot) → other ≢ l.row → value_at (rows l.all) other place d ≡ value_at (rows l.fn.all) other place d;
}
