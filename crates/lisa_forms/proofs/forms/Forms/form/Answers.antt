use Rattle.std.proofs.Common.{length, refl}
use Rattle.std.proofs.lemmas.Option.{slice_get_read}
use Rattle.lisa_forms.proofs.Parts.{at_place}
use Rattle.lisa_forms.proofs.forms.Forms.form.Goals as goal

pub returns-clause-of_description : goal.returns-clause-of_description
returns-clause-of_description c d are =
    let all = c.args.self.now.forms.items in
    let f = c.index.result.now in
    at_place d all c.args.form f are.all_forms (slice_get_read all (length all) c.args.form f refl c.requires c.index.ensures)
