use Rattle.std.proofs.Common.{false, refl, arith}
use Rattle.instruction_forms.specs.declared.form.Form.TheViews.{out-Form}
use Rattle.lowered_words.specs.Ways.{Child}
use Rattle.lowered_words.specs.Code.{words_tree}
use Rattle.lowered_words.proofs.Writing.{more_flags, all_flags}
use Rattle.lowered_words.proofs.words.Words.+raise_flags.Goals as goal

pub loop-place-preserved : goal.loop-place-preserved
loop-place-preserved t c = λ w at.
    let x = c.index-children-place.result in
    more_flags (words_tree c.args.self.now) false c.args.base c.args.scratch w c.loop-place.place (out-Form x).operation c.as_slice-children.result.now x c.args.draft.now c.loop-place.draft c.raise_flags.new.draft
    c.loop-place-test.true c.index-children-place.is refl (c.loop-place.invariant w at)
    (c.in_ok-raise_flags.ensures (Child w c.loop-place.place (out-Form x).operation) (c.child-below.ensures w at))

pub returns : goal.returns
returns t c = λ w at.
    all_flags (words_tree c.args.self.now) false c.args.base c.args.scratch w c.loop-place.place c.args.part.now c.as_slice-children.result.now c.args.draft.now c.loop-place.draft c.as_slice-children.ensures.value
    (let past = c.loop-place-test.false in omega (arith, past)) (c.loop-place.invariant w at)
