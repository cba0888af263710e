use Rattle.std.proofs.Common.{◌≡◌, take}
use Rattle.std.specs.List.{flat_map}
use Rattle.hex_files.specs.HexText.{low_bytes}
use Rattle.hex_files.proofs.hex_printer.cell_bytes.Given as goal

abbrev pub invariant-loop-cell : goal.invariant-loop-cell
invariant-loop-cell l = l.bytes.items ≡ flat_map (low_bytes l.count) (take l.cell-index l.cells)
