use Rattle.std.proofs.Common.{◌+◌, ◌<◌, ap, length, arith}
use Rattle.lisa_io.proofs.Known.{puts_exit, puts_early}
use Rattle.lisa_engine.specs.Text.{item_line}
use Rattle.lisa_engine.proofs.Lines.{zip_more, zip_whole}
use Rattle.lisa_engine.proofs.Places.{found_at}
use Rattle.lisa_engine.proofs.text.put_items.Goals as goal

pub returns-in_err-put_item_line : goal.returns-in_err-put_item_line
returns-in_err-put_item_line g c =
    let shape = g.met.E.Engine.shaped c.args.engine.now in
    let within : c.loop-place.place < length (g.E.Engine.machine c.args.engine.now).items = omega (arith, ap length c.items-item-items.ensures) in
    let here : c.loop-place.place < length (g.E.Engine.present c.args.engine.now).items = omega (arith, within, shape.values.count) in
    puts_exit _ _ c.from_residual.ensures.1
    (puts_early item_line _ (c.loop-place.place + 1) _ _ _ _ _
    (zip_more item_line _ _ c.loop-place.place c.item-item.result c.value.result _ _ _ _ _ _ _ _ within shape.values.count
    (rw c.items-item-items.ensures at c.item-item.is) (found_at _ _ 0 _ here c.value.ensures)
    c.loop-place.invariant (rw c.as_bytes.ensures at c.in_err-put_item_line.ensures)))

pub loop-place-preserved : goal.loop-place-preserved
loop-place-preserved g c =
    let shape = g.met.E.Engine.shaped c.args.engine.now in
    let within : c.loop-place.place < length (g.E.Engine.machine c.args.engine.now).items = omega (arith, ap length c.items-item-items.ensures) in
    let here : c.loop-place.place < length (g.E.Engine.present c.args.engine.now).items = omega (arith, within, shape.values.count) in
    zip_more item_line _ _ c.loop-place.place c.item-item.result c.value.result _ _ _ _ _ _ _ _ within shape.values.count
    (rw c.items-item-items.ensures at c.item-item.is) (found_at _ _ 0 _ here c.value.ensures)
    c.loop-place.invariant (rw c.as_bytes.ensures at c.in_ok-put_item_line.ensures)

pub returns : goal.returns
returns g c = zip_whole item_line _ _ c.loop-place.place _ _ _ _ _ (omega (arith, ap length c.items-item-items.ensures)) c.loop-place.invariant
