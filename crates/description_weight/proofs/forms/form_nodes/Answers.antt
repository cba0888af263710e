use Rattle.std.proofs.Common.{◌∙◌, ap, ap₂, map}
use Rattle.instruction_forms.specs.Trees.{form_tree}
use Rattle.access_counts.specs.Ledgers.{capped}
use Rattle.description_weight.specs.Sums.{nodes_where}
use Rattle.description_weight.proofs.Parts.{forms_told}
use Rattle.description_weight.proofs.forms.form_nodes.Goals as goal

pub returns : goal.returns
returns c = λ d are.
    c.nodes_where.ensures
    ∙ ap capped (ap₂ (λ fs ps. nodes_where (map form_tree fs) ps) c.forms.ensures.is c.plain.ensures.is)
    ∙ ap capped (forms_told d c.args.forms.now are)
