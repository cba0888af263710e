use Rattle.std.proofs.Common.{◌∙◌, sym, subst, arith}
use Rattle.scene_paths.specs.Lookups.{tree_of}
use Rattle.scene_paths.specs.Spans.{HasFields}
use Rattle.scene_paths.proofs.Decoding.{forms_counted, kept_form, numbered_fields}
use Rattle.occurrence_choices.proofs.standings.whole.Goals as goal

pub form-requires : goal.form-requires
form-requires c =
    let counted = forms_counted (tree_of c.args.described.now) c.forms-forms.result.now.forms.items c.forms-forms.ensures.all_forms in
    let low = c.requires in
    omega (arith, counted, low)

pub new-requires : goal.new-requires
new-requires c =
    subst HasFields (sym (kept_form (tree_of c.args.described.now) c.forms-forms.result.now.forms.items c.args.form c.form.result.now c.forms-forms.ensures.all_forms c.form.ensures.is))
    (numbered_fields (tree_of c.args.described.now) c.accepted.ensures c.coding-coding.result.now c.coding-coding.ensures c.args.form c.requires)

pub returns : goal.returns
returns c = c.new.ensures ∙ kept_form (tree_of c.args.described.now) c.forms-forms.result.now.forms.items c.args.form c.form.result.now c.forms-forms.ensures.all_forms c.form.ensures.is
