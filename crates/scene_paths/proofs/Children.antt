-- The place of a child among those of a coding.
use Rattle.std.proofs.Common.{◌≡◌, ◌<◌, ◌+◌, ◌∙◌, ℕ, suc, Bool, true, false, cond, not, nat_lt, List, ◌∷◌, ◌++◌, Option, None, Some, length, get_or, drop, drop-cons, add-one, refl, sym, ap, arith}
use Rattle.std.specs.Prelude.{option_map, position}
use Rattle.std.specs.List.{position_or_len}
use Rattle.std.specs.Option.{option_to_list}
use Rattle.std.proofs.lemmas.Bool.Decides.{nat_tests}
use Rattle.lisa_tree.specs.declared.descriptions.CodingItem.{CodingItem}
use Rattle.lisa_tree.specs.declared.descriptions.CodingItem.TheVariants as items
use Rattle.lisa_tree.specs.Same.{same_name}
use Rattle.lisa_meaning.specs.lisa_forms.Choosing.{child_name, child_names}

-- so many places further on
abbrev pub behind : ℕ → Option ℕ → Option ℕ
behind n place = option_map (λ (k : ℕ). n + k) place

told : (b : Bool) (k n : ℕ) → ◌≡◌ {A = Option ℕ} (cond (nat_lt (cond (not b) (1 + k) 0) (suc n)) (Some (cond (not b) (1 + k) 0)) None) (cond b (Some 0) (option_map (λ (j : ℕ). 1 + j) (cond (nat_lt k n) (Some k) None)))
told true k n = grind (arith, nat_tests)
told false k n = grind (arith, nat_tests)

pub position_first : {X : Type 0} (p : X → Bool) (x : X) (xs : List X) → position p (x ∷ xs) ≡ cond (p x) (Some 0) (behind 1 (position p xs))
position_first p x xs = told (p x) (position_or_len p xs) (length xs)

behind_more : (n : ℕ) (o : Option ℕ) → behind n (behind 1 o) ≡ behind (n + 1) o
behind_more n None = refl
behind_more n (Some k) = ap (λ (j : ℕ). Some j) (let e : n + (1 + k) ≡ n + 1 + k = omega arith in e)

rest_is : (all : List CodingItem) (i : ℕ) (x : CodingItem) → i < length all → x ≡ get_or all i x → child_names (drop i all) ≡ option_to_list (child_name x) ++ child_names (drop (i + 1) all)
rest_is all i x h e =
    ap child_names (drop-cons all i x h)
    ∙ ap (λ (y : CodingItem). option_to_list (child_name y) ++ child_names (drop (suc i) all)) (sym e)
    ∙ ap (λ (m : ℕ). option_to_list (child_name x) ++ child_names (drop m all)) (sym (add-one i))

-- an item that is a child with the name, one with another name, and one that is none
module _ (n : List ℕ) (all : List CodingItem) (i place : ℕ) (x : CodingItem) (h : i < length all) (e : x ≡ get_or all i x) where
  pub child_found : (m : List ℕ) → x ≡ items.Child m → same_name n m ≡ true → behind place (position (same_name n) (child_names (drop i all))) ≡ Some place
  child_found m is same =
      ap (λ (names : List (List ℕ)). behind place (position (same_name n) names)) (rest_is all i x h e ∙ ap (λ (y : CodingItem). option_to_list (child_name y) ++ child_names (drop (i + 1) all)) is)
      ∙ ap (behind place) (position_first (same_name n) m (child_names (drop (i + 1) all)) ∙ ap (λ (b : Bool). cond b (Some 0) (behind 1 (position (same_name n) (child_names (drop (i + 1) all))))) same)
      ∙ ap (λ (j : ℕ). Some j) (let z : place + 0 ≡ place = omega arith in z)

  pub child_past : (m : List ℕ) → x ≡ items.Child m → same_name n m ≡ false
      → behind place (position (same_name n) (child_names (drop i all))) ≡ behind (place + 1) (position (same_name n) (child_names (drop (i + 1) all)))
  child_past m is other =
      ap (λ (names : List (List ℕ)). behind place (position (same_name n) names)) (rest_is all i x h e ∙ ap (λ (y : CodingItem). option_to_list (child_name y) ++ child_names (drop (i + 1) all)) is)
      ∙ ap (behind place) (position_first (same_name n) m (child_names (drop (i + 1) all)) ∙ ap (λ (b : Bool). cond b (Some 0) (behind 1 (position (same_name n) (child_names (drop (i + 1) all))))) other)
      ∙ behind_more place (position (same_name n) (child_names (drop (i + 1) all)))

  pub none_past : child_name x ≡ None → behind place (position (same_name n) (child_names (drop i all))) ≡ behind place (position (same_name n) (child_names (drop (i + 1) all)))
  none_past none =
      ap (λ (names : List (List ℕ)). behind place (position (same_name n) names)) (rest_is all i x h e ∙ ap (λ (o : Option (List ℕ)). option_to_list o ++ child_names (drop (i + 1) all)) none)

pub behind_none : (o : Option ℕ) → behind 0 o ≡ o
behind_none None = refl
behind_none (Some k) = ap (λ (j : ℕ). Some j) (let z : 0 + k ≡ k = omega arith in z)
