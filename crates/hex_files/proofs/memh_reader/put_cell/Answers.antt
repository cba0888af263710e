use Rattle.std.proofs.Common.{sym}
use Rattle.hex_files.proofs.CellLoop.{cell_misses}
use Rattle.hex_files.proofs.memh_reader.put_cell.Goals as goal

pub returns-in-Some : goal.returns-in-Some
returns-in-Some c = cell_misses c.args.memory.now c.args.index c.args.value c.args.cells.now.items c.args.cells.now.items c.in-Some.fault (sym c.in-Some.ensures)
