-- The fields before have ended the edge, and all else is as it was.
use Rattle.std.proofs.Common.{◌≡◌, ◌≢◌, ◌<◌, ◌≤◌, ℕ}
use Rattle.lisa_meaning.specs.Moments.{field_at}
use Rattle.moment_stores.specs.Rows.{rows, IsTable}
use Rattle.moment_stores.specs.Boundaries.{closed_by}
use Rattle.moment_stores.proofs.boundaries.close_row.Given as goal

abbrev pub invariant-each : goal.invariant-each
invariant-each l = record {
  shape : IsTable l.count l.width (rows l.fields);
  here : (f : ℕ) → f < l.field → field_at (rows l.fields) l.boundary f ≡ closed_by l.closing.stays l.closing.empties (rows l.fn.fields) (rows l.outs) l.boundary f;
  later : (f : ℕ) → l.field ≤ f → field_at (rows l.fields) l.boundary f ≡ field_at (rows l.fn.fields) l.boundary f;
  others : (s f : ℕ) → s ≢ l.boundary → field_at (rows l.fields) s f ≡ field_at (rows l.fn.fields) s f;
}
