use Rattle.std.proofs.Common.{◌≡◌, ◌∙◌, Option, None, Some, length, sym, ap, refl}
use Rattle.std.specs.Prelude.{option_map}
use Rattle.std.proofs.lemmas.Bool.{ltb-true, ltb-false}
use Rattle.std.proofs.lemmas.Option.{slice_get_read, slice_get_past}
use Rattle.form_patterns.specs.instruction_forms.Trees.{FormTree, form_tree}
use Rattle.lisa_forms.specs.declared.standing.Standing.{Standing}
use Rattle.lisa_forms.specs.Choosing.{child_at}
use Rattle.lisa_forms.specs.Standings.{told, matched_in, matched_child}
use Rattle.lisa_forms.proofs.Chosen.{child_is}
use Rattle.lisa_forms.proofs.choosing.at_child.Goals as goal

pub returns-in-Some : goal.returns-in-Some
returns-in-Some c =
    let children = c.deref.result.now in
    let place = c.args.place in
    let child = c.in-Some.child.now in
    let lookup = c.in-Some.ensures.lookup in
    let is : child_at (form_tree c.in-At.part.now) place ≡ Some (form_tree child) =
    child_is c.in-At.part.now children c.deref.ensures.value place
    ∙ ap (option_map form_tree) (slice_get_read children (length children) place child refl (ltb-true place (length children) (sym lookup.0)) lookup.1) in
    c.at.ensures
    ∙ ap (λ (f : Option FormTree). matched_in f c.args.operation) (sym is)
    ∙ ap (λ (s : Standing). matched_child (told s) place c.args.operation) (sym c.in-At.is)

pub returns-in-None : goal.returns-in-None
returns-in-None c =
    let children = c.deref.result.now in
    let place = c.args.place in
    let is : child_at (form_tree c.in-At.part.now) place ≡ None =
    child_is c.in-At.part.now children c.deref.ensures.value place
    ∙ ap (option_map form_tree) (slice_get_past children place (ltb-false place (length children) (sym c.in-None.ensures.lookup.0))) in
    ap (λ (f : Option FormTree). matched_in f c.args.operation) (sym is)
    ∙ ap (λ (s : Standing). matched_child (told s) place c.args.operation) (sym c.in-At.is)
