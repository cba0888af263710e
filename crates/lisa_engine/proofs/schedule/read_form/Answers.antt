use Rattle.std.proofs.Common.{arith, Some, None, sym, ap, ◌∙◌}
use Rattle.std.proofs.lemmas.Bool.{eqb-true, eqb-false}
use Rattle.std.specs.Option.{option_map}
use Rattle.lisa_engine.proofs.Forms.{no_form, behind, form_read}
use Rattle.lisa_engine.proofs.schedule.read_form.Goals as goal

pub returns-in_default : goal.returns-in_default
returns-in_default c = no_form _ c.args.text.now c.in_ok-words.ensures (omega (arith, c.in_default.len_below, c.as_slice.ensures.len))

pub returns-then-is_empty : goal.returns-then-is_empty
returns-then-is_empty c =
    no_form _ c.args.text.now c.in_ok-words.ensures (omega (arith, c.as_slice.ensures.len, behind c.as_slice.result.now, eqb-true _ 0 (sym c.is_empty.ensures ∙ c.if-is_empty.true)))

pub returns-in-Some-2 : goal.returns-in-Some-2
returns-in-Some-2 c =
    form_read _ c.args.text.now _ _ (Some c.in-Some-2.settings.items) c.in_ok-words.ensures
    (omega (arith, c.as_slice.ensures.len, behind c.as_slice.result.now, eqb-false _ 0 (sym c.is_empty.ensures ∙ c.if-is_empty.false)))
    (rw c.as_slice.ensures.value at c.in-Some.ensures)
    (sym (ap (option_map (λ v. v.items)) c.in-Some-2.is) ∙ (rw c.as_slice.ensures.value at c.in_ok-settings.ensures))

pub returns : goal.returns
returns c =
    form_read _ c.args.text.now _ _ None c.in_ok-words.ensures
    (omega (arith, c.as_slice.ensures.len, behind c.as_slice.result.now, eqb-false _ 0 (sym c.is_empty.ensures ∙ c.if-is_empty.false)))
    (rw c.as_slice.ensures.value at c.in-Some.ensures)
    (sym (ap (option_map (λ v. v.items)) c.in-None.is) ∙ (rw c.as_slice.ensures.value at c.in_ok-settings.ensures))
