use Rattle.std.proofs.Common.{refl, ap, get_or}
use Rattle.verilog_clock.proofs.Cells.{rows_set}
use Rattle.verilog_clock.proofs.writes.set_one.Goals as goal

pub returns-then-index-len : goal.returns-then-index-len
returns-then-index-len c =
    let at = get_or c.args.cells.now c.args.array in
    let v = c.index-cells-array-then-index-len.result in
    record { cells = rows_set c.args.cells.now c.args.array c.args.index c.args.value (at v) _ c.if-array-cells.true (ap at c.index-cells-array-then-index-len.is) refl }
