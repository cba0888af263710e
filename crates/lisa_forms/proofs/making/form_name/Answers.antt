use Rattle.std.proofs.Common.{◌≡◌, ◌∙◌, ℕ, List, IfOk, subst, ap}
use Rattle.lisa_tree.specs.Descriptions.{DescriptionTree, description_tree}
use Rattle.lisa_tree.specs.Operations.{name_at}
use Rattle.form_patterns.specs.instruction_forms.Naming.{form_text}
use Rattle.form_patterns.specs.instruction_forms.Trees.{form_tree}
use Rattle.lisa_forms.proofs.Parts.{named}
use Rattle.lisa_forms.proofs.making.form_name.Goals as goal

pub returns : goal.returns
returns c =
    let d = description_tree c.args.machine.now in
    let f = c.form.result.now in
    let same = c.in_ok-tables.ensures ∙ ap description_tree c.description.ensures in
    subst (λ (n : List ℕ). IfOk c.form_name.result (λ name. name ≡ n))
    (ap (λ (t : DescriptionTree). form_text (name_at t) (form_tree f)) same ∙ named d c.args.forms.now.forms.items c.args.form f c.requires.forms.all_forms c.form.ensures.is)
    c.form_name.ensures
