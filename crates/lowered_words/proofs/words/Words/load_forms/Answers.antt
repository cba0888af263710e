use Rattle.std.proofs.Common.{◌≡◌, ◌<◌, ◌∙◌, ◌+◌, length, true, false, sym, subst, arith}
use Rattle.instruction_forms.specs.coding_tables.Instructions.{forms_of}
use Rattle.scene_paths.specs.form_patterns.Instructions.{instruction_plain}
use Rattle.step_pieces.specs.declared.drafts.Draft.{Draft}
use Rattle.lowered_time.specs.Pieces.{steps}
use Rattle.lowered_time.specs.Code.{Adds}
use Rattle.lowered_words.specs.Loading.{form_loaded}
use Rattle.lowered_words.specs.Code.{words_tree}
use Rattle.lowered_words.proofs.Writing.{plain_before, plain_at, plain_length, plain_put, alias_put, forms_put}
use Rattle.lowered_words.proofs.words.Words.load_forms.Goals as goal
use Rattle.lowered_words.proofs.words.Words.load_forms.Goals.{then-plain-number+in_ok-load_form, else-plain-number}

pub loop-number-preserved : goal.loop-number-preserved
loop-number-preserved c =
    let d = words_tree c.args.self.now in
    let i = c.loop-number.number in
    let flagged = form_loaded d c.args.width c.args.base c.args.scratch in
    let plain : c.plain-plain.result.now ≡ instruction_plain d = c.plain-plain.ensures.is ∙ c.forms.ensures.all_plain in
    let inside : i < length (forms_of d) = (let t = c.loop-number-test.true in let n = plain_length d c.plain-plain.result.now plain in omega (arith, t, n)) in
    elim c.if-plain-number.branch [
      | then-plain-number+in_ok-load_form w ↦
          subst (λ (b : Draft). Adds (steps (plain_before d flagged (i + 1))) c.args.draft.now b) (sym w.draft-is)
          (plain_put d flagged i inside c.args.draft.now c.loop-number.draft w.load_form.new.draft (plain_at d flagged i inside c.plain-plain.result.now _ true plain w.if-plain-number.true)
          c.loop-number.invariant w.in_ok-load_form.ensures)
      | else-plain-number w ↦
          subst (λ (b : Draft). Adds (steps (plain_before d flagged (i + 1))) c.args.draft.now b) (sym w.draft-is)
          (alias_put d flagged i inside c.args.draft.now c.loop-number.draft (plain_at d flagged i inside c.plain-plain.result.now _ false plain w.if-plain-number.false) c.loop-number.invariant)
    ]

pub returns : goal.returns
returns c =
    let d = words_tree c.args.self.now in
    let plain : c.plain-plain.result.now ≡ instruction_plain d = c.plain-plain.ensures.is ∙ c.forms.ensures.all_plain in
    forms_put d (form_loaded d c.args.width c.args.base c.args.scratch) c.loop-number.number c.args.draft.now c.loop-number.draft
    (let t = c.loop-number-test.false in let n = plain_length d c.plain-plain.result.now plain in omega (arith, t, n)) c.loop-number.invariant
