-- One more resource.
use Rattle.std.proofs.Common.{◌≡◌, ◌<◌, ◌+◌, ℕ, suc, List, ◌∷◌, length, map, get_or, drop, drop-cons, ap, sym, ◌∙◌, add-one}
use Rattle.lisa_tree.specs.declared.descriptions.Resource.{Resource}
use Rattle.lisa_tree.specs.Descriptions.{resource_tree}

pub one_resource : (all : List Resource) (i : ℕ) (d : Resource) → i < length all → d ≡ get_or all i d → map resource_tree (drop i all) ≡ resource_tree d ∷ map resource_tree (drop (i + 1) all)
one_resource all i d h e =
    ap (map resource_tree) (drop-cons all i d h)
    ∙ ap (λ (r : Resource). resource_tree r ∷ map resource_tree (drop (suc i) all)) (sym e)
    ∙ ap (λ (m : ℕ). resource_tree d ∷ map resource_tree (drop m all)) (sym (add-one i))
