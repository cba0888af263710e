use Rattle.std.proofs.Common.{◌≡◌, ◌*◌, ◌∙◌, ℕ, List, length, map, ap}
use Rattle.lisa_tree.specs.declared.descriptions.Description.{Description}
use Rattle.lisa_tree.specs.declared.descriptions.Resource.{Resource}
use Rattle.lisa_tree.specs.Descriptions.{resource_tree}
use Rattle.lisa_tree.specs.Resources.{stages_in}
use Rattle.access_counts.specs.Ledgers.{capped}
use Rattle.description_weight.proofs.weights.turns.Goals as goal

pub returns : goal.returns
returns c =
    c.saturating_mul.ensures
    ∙ ap (λ (k : ℕ). capped (length c.args.occurrences.now * k))
    (c.count_stages-count.ensures
    ∙ ap (λ (all : List Resource). length (stages_in (map resource_tree all))) c.deref.ensures.value
    ∙ ap (λ (m : Description). length (stages_in (map resource_tree m.resources.items))) c.description.ensures)
