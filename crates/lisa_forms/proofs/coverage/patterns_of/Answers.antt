use Rattle.std.proofs.Common.{◌≡◌, List, ap, sym, ◌∙◌, subst}
use Rattle.lisa_tree.specs.Descriptions.{DescriptionTree, description_tree}
use Rattle.form_patterns.specs.instruction_forms.declared.form.Form.{Form}
use Rattle.form_patterns.specs.instruction_forms.Described.{AreForms}
use Rattle.lisa_forms.proofs.coverage.patterns_of.Goals as goal

pub patterns-requires : goal.patterns-requires
patterns-requires c =
    let same : description_tree c.in_ok-tables.tables.globals.description.now ≡ description_tree c.args.machine.now = c.in_ok-tables.ensures ∙ ap description_tree c.description.ensures in
    record { forms = subst (λ (d : DescriptionTree). AreForms d c.forms.result.now) (sym same) (subst (λ (all : List Form). AreForms (description_tree c.args.machine.now) all) (sym c.forms.ensures.is) c.requires.forms.all_forms) }
