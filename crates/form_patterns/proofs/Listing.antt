-- Lists that are made one item after the other.
use Rattle.std.proofs.Common.{◌≡◌, ◌<◌, ◌≤◌, ◌+◌, ◌++◌, ℕ, zero, suc, List, [], ◌∷◌, length, map, take, get_or, refl, sym, ap, ap₂, ◌∙◌, arith}
use Rattle.std.proofs.lemmas.List.{map-append, take_more}
use Rattle.instruction_trees.specs.Trees.{In, here, there}

module _ {X Y : Type 0} (f : X → Y) where
  pub one_made : (xs : List X) (i : ℕ) (x : X) → i < length xs → x ≡ get_or xs i x → map f (take (i + 1) xs) ≡ map f (take i xs) ++ (f x ∷ [])
  one_made xs i x h is = ap (map f) (take_more xs i x h) ∙ map-append f (take i xs) (get_or xs i x ∷ []) ∙ ap (λ (y : X). map f (take i xs) ++ (f y ∷ [])) (sym is)

  pub all_made : (xs : List X) (i : ℕ) → length xs ≤ i → map f (take i xs) ≡ map f xs
  all_made [] zero h = refl
  all_made [] (suc i) h = refl
  all_made (x ∷ xs) zero h = absurd (omega arith)
  all_made (x ∷ xs) (suc i) h = ap (λ (ys : List Y). f x ∷ ys) (all_made xs i (omega arith))

pub map_both : {X Y Z : Type 0} (f : X → Y) (g : Y → Z) (xs : List X) → map (λ (x : X). g (f x)) xs ≡ map g (map f xs)
map_both f g [] = refl
map_both f g (x ∷ xs) = ap (λ (zs : List _). g (f x) ∷ zs) (map_both f g xs)

pub map_same : {X Y : Type 0} (f g : X → Y) (xs : List X) → ((x : X) → In x xs → f x ≡ g x) → map f xs ≡ map g xs
map_same f g [] h = refl
map_same f g (x ∷ xs) h = ap₂ (λ y ys. y ∷ ys) (h x here) (map_same f g xs (λ y i. h y (there i)))
