use Rattle.std.proofs.Common.{◌≡◌, ◌∙◌, false, length, List, refl, sym, subst, arith}
use Rattle.std.specs.Prelude.{vec_len}
use Rattle.std.proofs.lemmas.Bool.{eqb-true, eqb-false}
use Rattle.std.proofs.lemmas.Result.{on_ok_weaker}
use Rattle.instruction_forms.specs.declared.form.Form.{Form}
use Rattle.instruction_forms.specs.declared.form.Form.TheViews.{out-Form}
use Rattle.instruction_forms.specs.Described.{AreForms}
use Rattle.lowered_words.specs.Ways.{Whole}
use Rattle.lowered_words.specs.Code.{words_tree}
use Rattle.lowered_words.proofs.Alone.{is_several}
use Rattle.lowered_words.proofs.Writing.{bits_at_number, bits_fit, tree_at_number, forms_reach, form_put, alone_put}
use Rattle.lowered_words.proofs.words.Words.load_form.Goals as goal

pub test_form-requires : goal.test_form-requires
test_form-requires c =
    let d = words_tree c.args.self.now in
    bits_fit d c.args.number c.requires.within c.args.width c.requires.width c.index.result.now
    (bits_at_number d c.args.number c.requires.within c.args.self.now.patterns.items c.index.result.now c.args.self.now.bits c.index.ensures)

pub returns-then-is_empty : goal.returns-then-is_empty
returns-then-is_empty c =
    let d = words_tree c.args.self.now in
    let form = c.index-forms-number.result in
    let all = c.forms-2.result.now in
    let are : AreForms d all = subst (λ (fs : List Form). AreForms d fs) (sym c.forms-2.ensures.is) c.forms.ensures.all_forms in
    let children = (out-Form form).children in
    let count : vec_len children ≡ 0 = eqb-true (vec_len children) 0 (sym c.is_empty.ensures ∙ c.if-is_empty.true) in
    let same = children.ok.0 in
    let none : length children.items ≡ 0 = omega (arith, count, same) in
    on_ok_weaker c.set_flag.result
    (λ flag.
    alone_put d c.args.number c.requires.within c.args.width c.args.base c.args.scratch (out-Form form).operation _ c.index.result.now form c.args.draft.now c.test_form.new.draft c.set_flag.new.draft
    (bits_at_number d c.args.number c.requires.within c.args.self.now.patterns.items c.index.result.now c.args.self.now.bits c.index.ensures)
    (tree_at_number d c.args.number c.requires.within all form are (forms_reach d c.args.number c.requires.within all are) c.index-forms-number.is)
    refl none c.whole-whole.ensures c.in_ok-test_form.ensures flag)
    c.set_flag.ensures

pub returns-else-is_empty : goal.returns-else-is_empty
returns-else-is_empty c =
    let d = words_tree c.args.self.now in
    let form = c.index-forms-number.result in
    let all = c.forms-2.result.now in
    let are : AreForms d all = subst (λ (fs : List Form). AreForms d fs) (sym c.forms-2.ensures.is) c.forms.ensures.all_forms in
    let children = (out-Form form).children in
    let count = eqb-false (vec_len children) 0 (sym c.is_empty.ensures ∙ c.if-is_empty.false) in
    let same = children.ok.0 in
    on_ok_weaker c.raise_flags.result
    (λ flags.
    form_put d c.args.number c.requires.within c.args.width c.args.base c.args.scratch (out-Form form).operation false c.index.result.now form c.args.draft.now c.test_form.new.draft c.raise_flags.new.draft
    (bits_at_number d c.args.number c.requires.within c.args.self.now.patterns.items c.index.result.now c.args.self.now.bits c.index.ensures)
    (tree_at_number d c.args.number c.requires.within all form are (forms_reach d c.args.number c.requires.within all are) c.index-forms-number.is)
    refl (is_several form (λ e. count (omega (arith, e, same)))) c.in_ok-test_form.ensures flags)
    (c.raise_flags.ensures (Whole (out-Form form).operation) c.whole-whole.ensures)
