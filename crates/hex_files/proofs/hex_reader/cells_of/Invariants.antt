use Rattle.std.proofs.Common.{◌≡◌, length}
use Rattle.hex_files.specs.Before.{unless}
use Rattle.hex_files.specs.HexReading.{cells_of, first_wide}
use Rattle.hex_files.proofs.CellPieces.{cells_with}
use Rattle.hex_files.proofs.hex_reader.cells_of.Given as goal

abbrev pub invariant-cells : goal.invariant-cells
invariant-cells l = cells_with l.width l.count l.cells.items l.rest ≡ unless (first_wide l.width 0 (cells_of l.width l.bytes)) (cells_of l.width l.bytes)

abbrev pub decreases-cells : goal.decreases-cells
decreases-cells l = length l.rest
