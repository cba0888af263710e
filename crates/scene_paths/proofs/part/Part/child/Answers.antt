use Rattle.std.proofs.Common.{◌≡◌, ◌∙◌, Some, length, sym, ap, refl}
use Rattle.std.specs.Prelude.{option_map}
use Rattle.std.proofs.lemmas.Bool.{ltb-true, ltb-false}
use Rattle.std.proofs.lemmas.Option.{slice_get_read, slice_get_past}
use Rattle.lisa_meaning.specs.instruction_forms.Trees.{form_tree}
use Rattle.lisa_meaning.specs.lisa_forms.Choosing.{child_at}
use Rattle.scene_paths.proofs.Parted.{child_is}
use Rattle.scene_paths.proofs.Wide.{child_fields}
use Rattle.scene_paths.proofs.part.Part.child.Goals as goal

pub invariant_of-result : goal.invariant_of-result
invariant_of-result c =
    let children = c.deref.result.now in
    let lookup = c.in-Some.ensures.lookup in
    let is : child_at (form_tree c.args.self.now.form.now) c.args.place ≡ Some (form_tree c.in-Some.form.now) =
    child_is c.args.self.now.form.now children c.deref.ensures.value c.args.place
    ∙ ap (option_map form_tree) (slice_get_read children (length children) c.args.place c.in-Some.form.now refl (ltb-true c.args.place (length children) (sym lookup.0)) lookup.1) in
    record { fits = child_fields (form_tree c.args.self.now.form.now) c.args.place (form_tree c.in-Some.form.now) c.args.self.now.fits is }

pub returns-in-Some : goal.returns-in-Some
returns-in-Some c =
    let children = c.deref.result.now in
    let lookup = c.in-Some.ensures.lookup in
    sym (child_is c.args.self.now.form.now children c.deref.ensures.value c.args.place
    ∙ ap (option_map form_tree) (slice_get_read children (length children) c.args.place c.in-Some.form.now refl (ltb-true c.args.place (length children) (sym lookup.0)) lookup.1))

pub returns-in-None : goal.returns-in-None
returns-in-None c =
    let children = c.deref.result.now in
    sym (child_is c.args.self.now.form.now children c.deref.ensures.value c.args.place
    ∙ ap (option_map form_tree) (slice_get_past children c.args.place (ltb-false c.args.place (length children) (sym c.in-None.ensures.lookup.0))))
