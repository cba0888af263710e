use Rattle.std.proofs.Common.{subst, ◌<◌, List, None, Some, length, option_map, inl, inr, ⊎_elim, refl, sym, ap, ◌∙◌}
use Rattle.lisa_tree.specs.declared.faults.DescFault.{DescFault}
use Rattle.form_patterns.specs.instruction_forms.declared.form.Form.{Form}
use Rattle.form_promises.specs.lisa_machine.Verdicts.{nothing}
use Rattle.lisa_forms.specs.Verdicts.{bad_text, IsTextVerdict}
use Rattle.lisa_forms.proofs.Walking.{past, refused_here}
use Rattle.lisa_forms.proofs.Parts.{bad_is_one}
use Rattle.lisa_forms.proofs.checking.from_texts.Goals as goal

pub bad_text-requires-clause-within : goal.bad_text-requires-clause-within
bad_text-requires-clause-within g c =
    let d = g.N.Names.tree c.args.names.now in
    subst (λ (all : List Form). c.in-Some.number < length all) (sym c.deref-in-Some.ensures.value)
    (bad_is_one d c.in_ok-all.all.items c.in-Some.number c.in_ok-all.ensures (sym c.in_ok-first_bad_text.ensures ∙ c.in-Some.is))

pub kept-requires-clause-whole : goal.kept-requires-clause-whole
kept-requires-clause-whole g c =
    let d = g.N.Names.tree c.args.names.now in
    c.requires.before (past (IsTextVerdict d) nothing None (ap (option_map (bad_text d)) (sym c.in-None.is ∙ c.in_ok-first_bad_text.ensures)) refl)

pub returns-in-Some-clause-fault : goal.returns-in-Some-clause-fault
returns-in-Some-clause-fault g c =
    let d = g.N.Names.tree c.args.names.now in
    refused_here (IsTextVerdict d) nothing c.bad_text.result
    (⊎_elim (λ none. inl none) (λ is. inr (ap (λ (f : DescFault). Some f) is ∙ ap (option_map (bad_text d)) (sym c.in-Some.is ∙ c.in_ok-first_bad_text.ensures))) c.bad_text.ensures)
