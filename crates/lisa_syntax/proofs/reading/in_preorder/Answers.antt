use Rattle.std.proofs.Common.{◌<◌, length, refl, arith}
use Rattle.std.proofs.lemmas.Option.{slice_get_within, slice_get_read}
use Rattle.lisa_syntax.proofs.Placing.{one_more, all_placed}
use Rattle.lisa_syntax.proofs.reading.in_preorder.Goals as goal

pub loop-field-preserved : goal.loop-field-preserved
loop-field-preserved c =
    let inside = slice_get_within c.args.order.now c.place_of.result c.loop-field.field c.place_of.ensures in
    let level = c.requires.level in
    let within : c.place_of.result < length c.args.operands.now = omega (arith, inside, level) in
    one_more c.args.order.now c.loop-field.all.items c.push.new.self.items c.args.operands.now c.loop-field.field c.place_of.result c.index-operands-place_of.result c.loop-field.invariant c.place_of.ensures
    (slice_get_read c.args.operands.now (length c.args.operands.now) c.place_of.result c.index-operands-place_of.result refl within c.index-operands-place_of.is) c.in_ok-push.ensures.items

pub returns : goal.returns
returns c = all_placed c.args.order.now c.loop-field.all.items c.args.operands.now c.loop-field.field c.requires.order c.loop-field-test.false c.loop-field.auto.field-end c.loop-field.invariant
