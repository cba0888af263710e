use Rattle.std.proofs.Common.{◌+◌, arith}
use Rattle.lowered_time.proofs.Planned.{item_above, bits_on, all_bits}
use Rattle.lowered_time.proofs.end_steps.set_bits.Goals as goal

pub set_bit-requires-clause-above : goal.set_bit-requires-clause-above
set_bit-requires-clause-above g c =
    item_above (g.P.Parts.core c.args.parts.now) c.requires.sound c.args.plan.now c.requires.planned c.deref-occurrence-items.result.now c.deref-occurrence-items.ensures.value c.loop-occurrence.occurrence-index c.occurrence-item.result c.loop-occurrence-test.true c.occurrence-item.is

pub loop-occurrence-preserved : goal.loop-occurrence-preserved
loop-occurrence-preserved g c =
    bits_on (g.P.Parts.core c.args.parts.now) c.requires.sound c.args.plan.now c.requires.planned (g.P.Parts.operations c.args.parts.now) (g.P.Parts.layout c.args.parts.now) c.args.level
    c.deref-occurrence-items.result.now c.deref-occurrence-items.ensures.value c.loop-occurrence.occurrence-index (c.loop-occurrence.occurrence-index + 1) c.occurrence-item.result c.args.draft.now c.loop-occurrence.draft c.set_bit.new.draft c.loop-occurrence-test.true c.occurrence-item.is (omega arith)
    c.loop-occurrence.invariant c.in_ok-set_bit.ensures

pub returns : goal.returns
returns g c =
    all_bits (g.P.Parts.core c.args.parts.now) c.requires.sound c.args.plan.now c.requires.planned (g.P.Parts.operations c.args.parts.now) (g.P.Parts.layout c.args.parts.now) c.args.level
    c.deref-occurrence-items.result.now c.deref-occurrence-items.ensures.value c.loop-occurrence.occurrence-index c.args.draft.now c.loop-occurrence.draft (omega (arith, c.loop-occurrence-test.false, c.loop-occurrence.auto.occurrence-index-end)) c.loop-occurrence.invariant
