-- The boundaries from the last one down have ended the edge, and those before are as they were.
use Rattle.std.proofs.Common.{◌≡◌, ◌<◌, ◌≤◌, ℕ}
use Rattle.std.specs.Prelude.{reverse}
use Rattle.lisa_meaning.specs.Moments.{field_at}
use Rattle.moment_stores.specs.Rows.{rows, IsTable}
use Rattle.moment_stores.specs.Boundaries.{closed}
use Rattle.moment_stores.proofs.boundaries.close_rows.Given as goal

abbrev pub invariant-each : goal.invariant-each
invariant-each l = record {
  within : l.left ≤ l.count;
  shape : IsTable l.count l.width (rows l.fields);
  earlier : (s f : ℕ) → s < l.left → field_at (rows l.fields) s f ≡ field_at (rows l.fn.fields) s f;
  ended : (s f : ℕ) → l.left ≤ s → s < l.count → f < l.width → field_at (rows l.fields) s f ≡ closed (reverse l.stalled.noted.items) (reverse l.flushed.noted.items) (rows l.fn.fields) (rows l.outs) s f;
}

abbrev pub decreases-each : goal.decreases-each
decreases-each l = l.left
