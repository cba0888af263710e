use Rattle.std.proofs.Common.{◌+◌, ◌<◌, ap, length, refl, [], arith}
use Rattle.lisa_io.proofs.Known.{puts_exit, puts_early}
use Rattle.lisa_engine.specs.State.{cells_of}
use Rattle.lisa_engine.specs.Text.{array_lines}
use Rattle.lisa_engine.proofs.Lines.{zip_more, zip_whole}
use Rattle.lisa_engine.proofs.Places.{found_at}
use Rattle.lisa_engine.proofs.text.put_arrays.Goals as goal

pub returns-in_err-put_cells : goal.returns-in_err-put_cells
returns-in_err-put_cells g c =
    let shape = g.met.E.Engine.shaped c.args.engine.now in
    let within : c.loop-place.place < length (g.E.Engine.machine c.args.engine.now).arrays = omega (arith, ap length c.arrays-array-items.ensures) in
    let here : c.loop-place.place < length (g.E.Engine.present c.args.engine.now).cells = omega (arith, within, shape.cells.count) in
    puts_exit _ _ c.from_residual.ensures.1
    (puts_early array_lines _ (c.loop-place.place + 1) _ _ _ _ _
    (zip_more array_lines _ _ c.loop-place.place c.array-item.result (cells_of (g.E.Engine.present c.args.engine.now) c.loop-place.place) _ _ _ _ _ _ _ _ within shape.cells.count
    (rw c.arrays-array-items.ensures at c.array-item.is) (found_at _ _ [] _ here refl)
    c.loop-place.invariant (rw c.as_bytes.ensures at c.in_err-put_cells.ensures)))

pub loop-place-preserved : goal.loop-place-preserved
loop-place-preserved g c =
    let shape = g.met.E.Engine.shaped c.args.engine.now in
    let within : c.loop-place.place < length (g.E.Engine.machine c.args.engine.now).arrays = omega (arith, ap length c.arrays-array-items.ensures) in
    let here : c.loop-place.place < length (g.E.Engine.present c.args.engine.now).cells = omega (arith, within, shape.cells.count) in
    zip_more array_lines _ _ c.loop-place.place c.array-item.result (cells_of (g.E.Engine.present c.args.engine.now) c.loop-place.place) _ _ _ _ _ _ _ _ within shape.cells.count
    (rw c.arrays-array-items.ensures at c.array-item.is) (found_at _ _ [] _ here refl)
    c.loop-place.invariant (rw c.as_bytes.ensures at c.in_ok-put_cells.ensures)

pub returns : goal.returns
returns g c = zip_whole array_lines _ _ c.loop-place.place _ _ _ _ _ (omega (arith, ap length c.arrays-array-items.ensures)) c.loop-place.invariant
