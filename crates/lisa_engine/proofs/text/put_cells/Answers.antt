use Rattle.std.proofs.Common.{◌+◌, ◌<◌, length, arith}
use Rattle.lisa_io.proofs.Known.{puts_exit, puts_early}
use Rattle.lisa_engine.specs.State.{cells_of}
use Rattle.lisa_engine.specs.Text.{cell_line}
use Rattle.lisa_engine.proofs.Lines.{places_more, places_whole}
use Rattle.lisa_engine.proofs.Places.{found_at}
use Rattle.lisa_engine.proofs.text.put_cells.Goals as goal

pub returns-in_err-put_cell_line : goal.returns-in_err-put_cell_line
returns-in_err-put_cell_line g c =
    let within : c.loop-index.index < length (cells_of (g.E.Engine.present c.args.engine.now) c.args.array) = omega arith in
    puts_exit _ _ c.from_residual.ensures.1
    (puts_early (cell_line c.args.name.now) _ (c.loop-index.index + 1) _ _ _ _ _
    (places_more (cell_line c.args.name.now) _ c.loop-index.index c.cell.result _ _ _ _ _ _ _ _ within (found_at _ _ 0 _ within c.cell.ensures)
    c.loop-index.invariant c.in_err-put_cell_line.ensures))

pub loop-index-preserved : goal.loop-index-preserved
loop-index-preserved g c =
    let within : c.loop-index.index < length (cells_of (g.E.Engine.present c.args.engine.now) c.args.array) = omega arith in
    places_more (cell_line c.args.name.now) _ c.loop-index.index c.cell.result _ _ _ _ _ _ _ _ within (found_at _ _ 0 _ within c.cell.ensures)
    c.loop-index.invariant c.in_ok-put_cell_line.ensures

pub returns : goal.returns
returns g c = places_whole (cell_line c.args.name.now) _ c.loop-index.index _ _ _ _ _ (omega arith) c.loop-index.invariant
