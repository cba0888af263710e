use Rattle.std.proofs.Common.{inr, ap, refl, length, ◌∙◌}
use Rattle.std.proofs.lemmas.Option.{slice_get_read}
use Rattle.lisa_tree.specs.declared.faults.DescFault.TheVariants as faults
use Rattle.lisa_forms.proofs.Parts.{named}
use Rattle.lisa_forms.proofs.checking.bad_text.Goals as goal

pub returns-in-Ok : goal.returns-in-Ok
returns-in-Ok g c =
    let d = g.N.Names.tree c.args.names.now in
    let all = c.args.forms.now in
    let form = c.index-forms-number.result in
    inr (ap faults.BadText (c.in-Ok.ensures ∙ named d all c.args.number form c.requires.forms (slice_get_read all (length all) c.args.number form refl c.requires.within c.index-forms-number.is)))
