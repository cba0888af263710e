-- One more item of a list.
use Rattle.std.proofs.Common.{◌≡◌, ◌<◌, ◌+◌, ℕ, suc, List, ◌∷◌, ◌++◌, length, get_or, drop, drop-cons, map, refl, sym, ap, ◌∙◌, add-one, append_assoc}
use Rattle.std.proofs.Common.{◌≤◌, Some, None}
use Rattle.std.specs.Prelude.{slice_get, option_map}
use Rattle.std.proofs.lemmas.Option.{slice_get-map, slice_get_read, slice_get_past}
use Rattle.lisa_tree.specs.declared.descriptions.Resource.{Resource}
use Rattle.lisa_tree.specs.declared.descriptions.Operation.{Operation}
use Rattle.lisa_tree.specs.Descriptions.{resource_tree, operation_tree}

pub one_more : {X : Type 0} (xs : List X) (i : ℕ) (x : X) → i < length xs → x ≡ get_or xs i x → drop i xs ≡ x ∷ drop (i + 1) xs
one_more {X = X} xs i x h is = drop-cons xs i x h ∙ ap (λ (y : X). y ∷ drop (suc i) xs) (sym is) ∙ ap (λ (n : ℕ). x ∷ drop n xs) (sym (add-one i))

pub one_number : (xs : List ℕ) (i : ℕ) → i < length xs → drop i xs ≡ get_or xs i 0 ∷ drop (i + 1) xs
one_number xs i h = drop-cons xs i 0 h ∙ ap (λ (n : ℕ). get_or xs i 0 ∷ drop n xs) (sym (add-one i))

pub one_resource : (all : List Resource) (i : ℕ) (r : Resource) → i < length all → r ≡ get_or all i r → map resource_tree (drop i all) ≡ resource_tree r ∷ map resource_tree (drop (i + 1) all)
one_resource all i r h is = ap (map resource_tree) (one_more all i r h is)

pub operation_read : (all : List Operation) (i : ℕ) (o : Operation) → i < length all → o ≡ get_or all i o → slice_get (map operation_tree all) i ≡ Some (operation_tree o)
operation_read all i o h is = slice_get-map operation_tree all i ∙ ap (option_map operation_tree) (slice_get_read all (length all) i o refl h is)

pub operation_past : (all : List Operation) (i : ℕ) → length all ≤ i → slice_get (map operation_tree all) i ≡ None
operation_past all i h = slice_get-map operation_tree all i ∙ ap (option_map operation_tree) (slice_get_past all i h)

-- what was added, and what is left
pub regroup : {X : Type 0} (row more row' rest front all : List X) → row' ≡ row ++ more → row ++ all ≡ front → all ≡ more ++ rest → row' ++ rest ≡ front
regroup {X = X} row more row' rest front all e f g = ap (λ (z : List X). z ++ rest) e ∙ append_assoc row more rest ∙ ap (λ (z : List X). row ++ z) (sym g) ∙ f
