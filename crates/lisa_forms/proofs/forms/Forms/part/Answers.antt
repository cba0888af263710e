use Rattle.std.proofs.Common.{◌≡◌, ◌↔◌, Option, Some, length, refl, sym, subst}
use Rattle.std.proofs.lemmas.Option.{slice_get_read}
use Rattle.form_patterns.specs.instruction_forms.Trees.{FormTree, form_tree}
use Rattle.lisa_forms.specs.Choosing.{Stands, numbered_form}
use Rattle.lisa_forms.specs.Standings.{told, part_in}
use Rattle.lisa_forms.proofs.Chosen.{part_is}
use Rattle.lisa_forms.proofs.Parts.{at_place}
use Rattle.lisa_forms.proofs.forms.Forms.part.Goals as goal

pub returns : goal.returns
returns c d forms part =
    let all = c.args.self.now.forms.items in
    let f = c.index.result.now in
    let is : form_tree f ≡ numbered_form d c.args.form = at_place d all c.args.form f forms.all_forms (slice_get_read all (length all) c.args.form f refl c.requires.form c.index.ensures) in
    subst (λ (o : Option FormTree). (o ≡ Some part) ↔ Stands d (numbered_form d c.args.form) c.args.occurrence (Some part)) (sym c.part.ensures)
    (subst (λ (g : FormTree). (part_in (told c.standing.result) ≡ Some part) ↔ Stands d g c.args.occurrence (Some part)) is
    (part_is d (form_tree f) c.args.occurrence (told c.standing.result) (c.standing.ensures d forms) part))
