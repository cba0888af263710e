-- A list that is sorted and rid of what stands twice has the numbers that it had, in their order.
use Rattle.std.proofs.Common.{◌≡◌, ℕ, List, Bool, true, false, nat_eq, refl, sym}
use Rattle.std.specs.List.{dedup}
use Rattle.std.proofs.lemmas.Bool.{eqb-true}
use Rattle.std.proofs.lemmas.Cmp.{nat_eq_equiv}
use Rattle.std.proofs.lemmas.List.Kept.{Contains-dedup_nat, Contains-from_dedup}
use Rattle.std.proofs.lemmas.Map.Views.{list_any-from_Contains, Contains-from_any}
use Rattle.graph_paths.specs.Paths.{is_in}

same_truth : (x y : Bool) → (x ≡ true → y ≡ true) → (y ≡ true → x ≡ true) → x ≡ y
same_truth true y f g = sym (f refl)
same_truth false true f g = g refl
same_truth false false f g = refl

pub dedup_keeps : (xs : List ℕ) (a : ℕ) → is_in a (dedup nat_eq xs) ≡ is_in a xs
dedup_keeps xs a = same_truth (is_in a (dedup nat_eq xs)) (is_in a xs)
    (λ e. list_any-from_Contains nat_eq_equiv a xs (Contains-from_dedup nat_eq xs a (Contains-from_any eqb-true a (dedup nat_eq xs) e)))
    (λ e. list_any-from_Contains nat_eq_equiv a (dedup nat_eq xs) (Contains-dedup_nat xs a (Contains-from_any eqb-true a xs e)))
