-- The rows before.
use Rattle.std.proofs.Common.{◌≡◌}
use Rattle.std.specs.Prelude.{replicate}
use Rattle.moment_stores.specs.Rows.{rows}
use Rattle.moment_stores.proofs.boundaries.make_fields.Given as goal

abbrev pub invariant-each : goal.invariant-each
invariant-each l = rows l.all.items ≡ replicate l.i (replicate l.width 0)
