use Rattle.std.proofs.Common.{refl, arith}
use Rattle.instruction_forms.specs.declared.form.Form.TheViews.{out-Form}
use Rattle.lowered_words.specs.Ways.{Child}
use Rattle.lowered_words.proofs.Tabled.{all_from, begun, child_enters, child_entered, all_entered}
use Rattle.lowered_words.proofs.table.Table.+enter_part.Goals as goal

pub loop-place-init : goal.loop-place-init
loop-place-init t c = λ d ways w enters.
    begun d ways c.args.self.now.links.keys c.enter.new.self.links.keys c.args.self.now.parts.items c.enter.new.self.parts.items w c.args.link c.args.part c.in_ok-above.above c.as_slice-children.result.now
    enters c.as_slice-children.ensures.value c.in_ok-above.ensures.links c.in_ok-above.ensures.parts c.in_ok-above.ensures.place

pub loop-place-preserved : goal.loop-place-preserved
loop-place-preserved t c = λ d ways w enters.
    let x = c.index-children-place.result in
    let children = c.as_slice-children.result.now in
    let all = c.loop-place.self.links.keys in
    let parts = c.loop-place.self.parts.items in
    let o = (out-Form x).operation in
    let total = all_from d ways w c.args.part.now in
    let e = c.loop-place.invariant d ways w enters in
    child_entered d w c.in_ok-above.above c.loop-place.place c.args.part.now children c.as_slice-children.ensures.value enters.part c.loop-place-test.true x c.index-children-place.is
    all c.enter_part.new.self.links.keys parts c.enter_part.new.self.parts.items total e o refl
    (c.in_ok-enter_part.ensures d e.mid (Child w c.loop-place.place o)
    (child_enters d w c.in_ok-above.above c.loop-place.place c.args.part.now children c.as_slice-children.ensures.value enters.part c.loop-place-test.true x c.index-children-place.is all parts total e o refl))

pub returns : goal.returns
returns t c = λ d ways w enters.
    all_entered d w c.in_ok-above.above c.loop-place.place c.as_slice-children.result.now c.loop-place.self.links.keys c.loop-place.self.parts.items (all_from d ways w c.args.part.now)
    (c.loop-place.invariant d ways w enters) (let past = c.loop-place-test.false in omega (arith, past))
