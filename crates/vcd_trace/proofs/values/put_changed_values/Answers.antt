use Rattle.std.proofs.Common.{arith, ◌<◌, ◌+◌, ap, length, Ok, None}
use Rattle.lisa_io.proofs.Known.{puts_exit, puts_early}
use Rattle.vcd_trace.specs.VcdText.{changed_value}
use Rattle.vcd_trace.proofs.ValueLines.{changes_more, row_more, changes_whole}
use Rattle.vcd_trace.proofs.values.put_changed_values.Goals as goal

pub returns-in_err-put_changed_value-clause-puts : goal.returns-in_err-put_changed_value-clause-puts
returns-in_err-put_changed_value-clause-puts g c =
    let values = (g.met.E.Engine.shaped c.args.engine.now).values in
    let within : c.loop-place.place < length (g.E.Engine.machine c.args.engine.now).items = omega (arith, ap length c.items-item-items.ensures) in
    puts_exit _ _ c.from_residual.ensures.1
    (puts_early changed_value _ (c.loop-place.place + 1) _ _ _ _ _
    (changes_more (g.E.Engine.machine c.args.engine.now).items c.args.before.now (g.E.Engine.present c.args.engine.now).items c.loop-place.before c.loop-place.place c.item-item.result c.value-now.result
    _ _ _ _ _ _ _ _ within c.requires.row values.count (rw c.items-item-items.ensures at c.item-item.is) c.value-now.ensures c.loop-place.invariant.1 c.loop-place.invariant.0 c.in_err-put_changed_value.ensures))

pub loop-place-preserved : goal.loop-place-preserved
loop-place-preserved g c =
    let values = (g.met.E.Engine.shaped c.args.engine.now).values in
    let within : c.loop-place.place < length (g.E.Engine.machine c.args.engine.now).items = omega (arith, ap length c.items-item-items.ensures) in (
      changes_more (g.E.Engine.machine c.args.engine.now).items c.args.before.now (g.E.Engine.present c.args.engine.now).items c.loop-place.before c.loop-place.place c.item-item.result c.value-now.result
          _ _ _ _ _ _ _ _ within c.requires.row values.count (rw c.items-item-items.ensures at c.item-item.is) c.value-now.ensures c.loop-place.invariant.1 c.loop-place.invariant.0 c.in_ok-put_changed_value.ensures,
      row_more {T = Unit {0}} {E = Unit {0}} (g.E.Engine.machine c.args.engine.now).items c.args.before.now (g.E.Engine.present c.args.engine.now).items c.loop-place.before c.loop-place.place c.item-item.result c.value-now.result
          tt None None None 0 0 0 (Ok tt) within c.requires.row values.count (rw c.items-item-items.ensures at c.item-item.is) c.value-now.ensures c.loop-place.invariant.1,
    )

pub returns-clause-puts : goal.returns-clause-puts
returns-clause-puts g c =
    changes_whole (g.E.Engine.machine c.args.engine.now).items c.args.before.now (g.E.Engine.present c.args.engine.now).items c.loop-place.place _ _ _ _ _
    (omega (arith, ap length c.items-item-items.ensures)) c.loop-place.invariant.0
