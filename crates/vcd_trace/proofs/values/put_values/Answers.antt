use Rattle.std.proofs.Common.{◌+◌, ◌<◌, ap, length, arith}
use Rattle.lisa_io.proofs.Known.{puts_exit, puts_early}
use Rattle.vcd_trace.specs.VcdText.{value_line}
use Rattle.vcd_trace.proofs.ValueLines.{values_more, values_whole}
use Rattle.vcd_trace.proofs.values.put_values.Goals as goal

pub returns-in_err-put_value : goal.returns-in_err-put_value
returns-in_err-put_value g c =
    let shape = (g.met.E.Engine.shaped c.args.engine.now).values in
    let within : c.loop-place.place < length (g.E.Engine.machine c.args.engine.now).items = omega (arith, ap length c.items-item-items.ensures) in
    puts_exit _ _ c.from_residual.ensures.1
    (puts_early value_line _ (c.loop-place.place + 1) _ _ _ _ _
    (values_more _ _ c.loop-place.place c.item-item.result c.value.result _ _ _ _ _ _ _ _ within shape.count (rw c.items-item-items.ensures at c.item-item.is) c.value.ensures
    c.loop-place.invariant c.in_err-put_value.ensures))

pub loop-place-preserved : goal.loop-place-preserved
loop-place-preserved g c =
    let shape = (g.met.E.Engine.shaped c.args.engine.now).values in
    let within : c.loop-place.place < length (g.E.Engine.machine c.args.engine.now).items = omega (arith, ap length c.items-item-items.ensures) in
    values_more _ _ c.loop-place.place c.item-item.result c.value.result _ _ _ _ _ _ _ _ within shape.count (rw c.items-item-items.ensures at c.item-item.is) c.value.ensures
    c.loop-place.invariant c.in_ok-put_value.ensures

pub returns : goal.returns
returns g c = values_whole _ _ c.loop-place.place _ _ _ _ _ (omega (arith, ap length c.items-item-items.ensures)) c.loop-place.invariant
