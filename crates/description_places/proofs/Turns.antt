-- A loop over a list goes past what is without fault, and stops at the first fault.
use Rattle.std.proofs.Common.{◌≡◌, ◌<◌, ◌+◌, ℕ, suc, List, ◌∷◌, ◌++◌, Option, None, Some, ap, sym, ◌∙◌, drop, get_or, length, drop-cons, add-one}
use Rattle.std.specs.Option.{option_or}
use Rattle.description_places.specs.Places.{At, Condition, first}
use Rattle.description_places.proofs.Firsts.{first_append}

-- S is what goes on from an element to the next: a number, a scope or nothing that matters
module _ {F X S : Type 0} (breaks : Condition F) (all_of : S → List X → List At) (one_of : S → X → List At) (next : S → X → S)
    (split : (s : S) (x : X) (xs : List X) → all_of s (x ∷ xs) ≡ one_of s x ++ all_of (next s x) xs) (s : S) (all : List X) (i : ℕ) (d : X) (h : i < length all) (item : d ≡ get_or all i d) where
  one_more : first breaks (all_of s (drop i all)) ≡ option_or (first breaks (one_of s d)) (first breaks (all_of (next s d) (drop (i + 1) all)))
  one_more =
      ap (λ (rest : List X). first breaks (all_of s rest)) (drop-cons all i d h)
      ∙ ap (λ (x : X). first breaks (all_of s (x ∷ drop (suc i) all))) (sym item)
      ∙ ap (λ (m : ℕ). first breaks (all_of s (d ∷ drop m all))) (sym (add-one i))
      ∙ ap (first breaks) (split s d (drop (i + 1) all))
      ∙ first_append breaks (one_of s d) (all_of (next s d) (drop (i + 1) all))

  pub goes_past : first breaks (one_of s d) ≡ None → first breaks (all_of s (drop i all)) ≡ first breaks (all_of (next s d) (drop (i + 1) all))
  goes_past none = one_more ∙ ap (λ (z : Option F). option_or z (first breaks (all_of (next s d) (drop (i + 1) all)))) none

  pub stops_at : (fault : F) → first breaks (one_of s d) ≡ Some fault → Some fault ≡ first breaks (all_of s (drop i all))
  stops_at fault some = sym (one_more ∙ ap (λ (z : Option F). option_or z (first breaks (all_of (next s d) (drop (i + 1) all)))) some)
