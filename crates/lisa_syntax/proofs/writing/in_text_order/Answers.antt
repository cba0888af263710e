use Rattle.lisa_syntax.proofs.Texts.{shows_all, shows_next}
use Rattle.lisa_syntax.proofs.writing.in_text_order.Goals as goal

pub returns : goal.returns
returns c = shows_all c.args.order.now c.args.fields.now c.loop-place.shown.items c.loop-place.place c.loop-place-test.false c.loop-place.invariant

pub loop-place-preserved : goal.loop-place-preserved
loop-place-preserved c = shows_next c.args.order.now c.args.fields.now c.loop-place.shown.items c.push.new.self.items c.loop-place.place _ _ c.requires.order c.requires.level c.loop-place-test.true c.loop-place.invariant c.in_ok-push.ensures.items
