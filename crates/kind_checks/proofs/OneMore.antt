-- One more element.
use Rattle.std.proofs.Common.{◌≡◌, ◌<◌, ◌+◌, ℕ, suc, List, ◌∷◌, length, map, get_or, drop, drop-cons, ap, sym, ◌∙◌, add-one}
use Rattle.lisa_tree.specs.declared.descriptions.Resource.{Resource}
use Rattle.lisa_tree.specs.declared.descriptions.Declare.{Declare}
use Rattle.lisa_tree.specs.Descriptions.{resource_tree, declare_tree}

one : {T U : Type 0} (f : T → U) (all : List T) (i : ℕ) (d : T) → i < length all → d ≡ get_or all i d → map f (drop i all) ≡ f d ∷ map f (drop (i + 1) all)
one {T = T} f all i d h e =
    ap (map f) (drop-cons all i d h)
    ∙ ap (λ (s : T). f s ∷ map f (drop (suc i) all)) (sym e)
    ∙ ap (λ (m : ℕ). f d ∷ map f (drop m all)) (sym (add-one i))

pub one_resource : (all : List Resource) (i : ℕ) (d : Resource) → i < length all → d ≡ get_or all i d → map resource_tree (drop i all) ≡ resource_tree d ∷ map resource_tree (drop (i + 1) all)
one_resource all i d h e = one resource_tree all i d h e

pub one_declaration : (all : List Declare) (i : ℕ) (d : Declare) → i < length all → d ≡ get_or all i d → map declare_tree (drop i all) ≡ declare_tree d ∷ map declare_tree (drop (i + 1) all)
one_declaration all i d h e = one declare_tree all i d h e
