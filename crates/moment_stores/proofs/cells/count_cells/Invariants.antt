-- What is counted, and what is left.
use Rattle.std.proofs.Common.{◌≡◌, ◌+◌, drop}
use Rattle.moment_stores.specs.Rows.{rows, all_places}
use Rattle.moment_stores.proofs.cells.count_cells.Given as goal

abbrev pub invariant-each : goal.invariant-each
invariant-each l = l.count + all_places (rows (drop l.row-index l.cells)) ≡ all_places (rows l.cells)
