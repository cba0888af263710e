use Rattle.std.proofs.Common.{◌∙◌, None, Some, sym, ap}
use Rattle.std.specs.Prelude.{option_map}
use Rattle.std.specs.Borrow.{Bor}
use Rattle.lisa_tree.specs.Same.{same_name}
use Rattle.lisa_meaning.specs.instruction_forms.declared.form.Field.{Field}
use Rattle.scene_paths.proofs.Parted.{form_own, found_fits, label_is}
use Rattle.scene_paths.proofs.part.Part.label.Goals as goal

pub field_value-requires : goal.field_value-requires
field_value-requires c =
    found_fits (λ (own : Field). same_name c.args.name.now own.label) c.deref.result.now c.in-Some.own.now (form_own c.args.self.now.form.now c.deref.result.now c.deref.ensures.value c.args.self.now.fits)
    (sym c.field_named.ensures ∙ ap (option_map (λ (own : Bor Field). own.now)) c.in-Some.is)

pub returns-in-Some : goal.returns-in-Some
returns-in-Some c =
    c.field_value.ensures
    ∙ label_is c.args.self.now.form.now c.deref.result.now c.args.name.now c.args.word (Some c.in-Some.own.now) c.deref.ensures.value
    (sym (ap (option_map (λ (own : Bor Field). own.now)) c.in-Some.is) ∙ c.field_named.ensures)

pub returns-in-None : goal.returns-in-None
returns-in-None c =
    c.truth.ensures
    ∙ label_is c.args.self.now.form.now c.deref.result.now c.args.name.now c.args.word None c.deref.ensures.value
    (sym (ap (option_map (λ (own : Bor Field). own.now)) c.in-None.is) ∙ c.field_named.ensures)
