use Rattle.std.proofs.Common.{◌≡◌, ◌<◌, ◌^◌, ℕ, Bool, List, length, sym, ap, ◌∙◌, subst, arith}
use Rattle.lisa_tree.specs.Descriptions.{description_tree}
use Rattle.instruction_forms.specs.declared.form.Form.{Form}
use Rattle.instruction_forms.specs.Described.{AreForms}
use Rattle.generated_programs.specs.Draws.{marked_from, plain_forms}
use Rattle.generated_programs.proofs.choices.Choices.make.Goals as goal

pub marked-requires : goal.marked-requires
marked-requires c =
    let f = c.args.forms.now in
    let few = f.few in
    let level = f.level in
    subst (λ (bs : List Bool). length bs < 2 ^ 32) (sym c.plain.ensures.is) (omega (arith, few, level))

pub invariant_of-result : goal.invariant_of-result
invariant_of-result c =
    let d = description_tree c.args.machine.now in
    let plain : c.in_ok-plain.plain.items ≡ plain_forms d = c.in_ok-plain.ensures ∙ ap (marked_from 0) (c.plain.ensures.is ∙ c.requires.forms.all_plain) in
    record {
      some = subst (λ (xs : List ℕ). 0 < length xs) (sym plain) c.requires.some;
      forms = plain;
      fields = c.in_ok-places.ensures d (subst (λ (all : List Form). AreForms d all) (sym c.forms.ensures.is) c.requires.forms.all_forms);
    }
