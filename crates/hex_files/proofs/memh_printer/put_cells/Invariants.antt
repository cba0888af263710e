use Rattle.std.proofs.Common.{◌≡◌, ◌++◌, take}
use Rattle.std.specs.List.{flat_map}
use Rattle.hex_files.specs.MemhText.{cell_line}
use Rattle.hex_files.proofs.memh_printer.put_cells.Given as goal

abbrev pub invariant-loop-cell : goal.invariant-loop-cell
invariant-loop-cell l = l.out.items ≡ l.fn.out.items ++ flat_map (cell_line l.width) (take l.cell-index l.cells)
