use Rattle.std.proofs.Common.{◌≡◌, ◌↔◌, Bool, true, length, refl, sym, subst}
use Rattle.std.proofs.lemmas.Option.{slice_get_read}
use Rattle.form_patterns.specs.instruction_forms.Trees.{FormTree, form_tree}
use Rattle.lisa_forms.specs.Choosing.{Chooses, numbered_form}
use Rattle.lisa_forms.specs.Standings.{told}
use Rattle.lisa_forms.proofs.Chosen.{choice_is}
use Rattle.lisa_forms.proofs.Parts.{at_place}
use Rattle.lisa_forms.proofs.forms.Forms.chooses.Goals as goal

pub returns : goal.returns
returns c d forms =
    let all = c.args.self.now.forms.items in
    let f = c.index.result.now in
    let is : form_tree f ≡ numbered_form d c.args.form = at_place d all c.args.form f forms.all_forms (slice_get_read all (length all) c.args.form f refl c.requires.form c.index.ensures) in
    subst (λ (g : FormTree). (c.is_chosen.result ≡ true) ↔ Chooses d g c.args.occurrence) is
    (subst (λ (b : Bool). (b ≡ true) ↔ Chooses d (form_tree f) c.args.occurrence) (sym c.is_chosen.ensures)
    (choice_is d (form_tree f) c.args.occurrence (told c.standing.result) (c.standing.ensures d forms)))
