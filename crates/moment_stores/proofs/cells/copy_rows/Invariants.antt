-- The rows before are those that are copied.
use Rattle.std.proofs.Common.{◌≡◌, length, map, take}
use Rattle.moment_stores.specs.Rows.{rows}
use Rattle.moment_stores.proofs.cells.copy_rows.Given as goal

abbrev pub invariant-each : goal.invariant-each
invariant-each l = (map length (rows l.cells) ≡ map length (rows l.from)) × (take l.place (rows l.cells) ≡ take l.place (rows l.from))
