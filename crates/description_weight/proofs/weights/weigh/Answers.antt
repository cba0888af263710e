use Rattle.std.proofs.Common.{◌≡◌, ◌+◌, ◌*◌, ◌∙◌, ℕ, List, None, length, ap, sym, subst}
use Rattle.lisa_tree.specs.Descriptions.{DescriptionTree, description_tree}
use Rattle.lisa_tree.specs.Resources.{stages}
use Rattle.description_graph.specs.Circles.{IsFirstCircularOperation}
use Rattle.lisa_forms.proofs.lisa_machine_proofs.Sound.{sound}
use Rattle.description_sizes.specs.activation_trees.declared.parts.Occurrence.{Occurrence}
use Rattle.description_sizes.specs.activation_trees.Unfolding.{occurrences}
use Rattle.access_counts.specs.Ledgers.{capped}
use Rattle.description_weight.specs.Weights.{unfolded_nodes, pairs}
use Rattle.description_weight.proofs.Parts.{weighed}
use Rattle.description_weight.proofs.weights.weigh.Goals as goal

pub text_weight-requires-clause-acyclic : goal.text_weight-requires-clause-acyclic
text_weight-requires-clause-acyclic c =
    let d = description_tree c.args.machine.now in
    let same = c.in_ok-tables.ensures ∙ ap description_tree c.description.ensures in
    subst (λ (t : DescriptionTree). IsFirstCircularOperation t None) (sym same) (sound d c.accepted.ensures.accepted).circles

pub text_weight-requires-clause-all : goal.text_weight-requires-clause-all
text_weight-requires-clause-all c =
    let same = c.in_ok-tables.ensures ∙ ap description_tree c.description.ensures in
    c.occurrences.ensures.is ∙ c.requires.all_occurrences ∙ sym (ap occurrences same)

pub returns : goal.returns
returns c =
    let d = description_tree c.args.machine.now in
    let same = c.in_ok-tables.ensures ∙ ap description_tree c.description.ensures in
    weighed d _ _ _ _ _
    (c.in_ok-text.ensures ∙ ap (λ (t : DescriptionTree). capped (unfolded_nodes t + pairs t)) same)
    (c.form_nodes.ensures d c.requires)
    (c.turns.ensures ∙ ap (λ (all : List Occurrence). capped (length all * length (stages d))) (c.occurrences-2.ensures.is ∙ c.requires.all_occurrences))
    c.saturating_add-with_forms.ensures c.saturating_add.ensures
