-- What elements give with those before them, one behind the other.
use Rattle.std.proofs.Common.{◌≡◌, List, [], ◌∷◌, ◌++◌, map, append_assoc, append-nil, refl, sym, ap, ◌∙◌}
use Rattle.std.specs.List.{flat_map}
use Rattle.hex_files.specs.Before.{with_before}

module _ {A B : Type 0} (f : List A × A → List B) where
  -- where these stand before all of them
  unfoldable pub spread : List A → List A → List B
  spread front [] = []
  spread front (x ∷ xs) = f (front, x) ++ spread (front ++ x ∷ []) xs

  shifted : (g h : List A × A → List B) (k : List A × A → List A × A) → ((y : List A × A) → g (k y) ≡ h y) → (ys : List (List A × A)) → flat_map g (map k ys) ≡ flat_map h ys
  shifted g h k e [] = refl
  shifted g h k e (y ∷ ys) = ap (λ (l : List B). l ++ flat_map g (map k ys)) (e y) ∙ ap (λ (l : List B). h y ++ l) (shifted g h k e ys)

  behind : List A → List A × A → List B
  behind front y = f (front ++ y.0, y.1)

  is_spread : (front xs : List A) → flat_map (behind front) (with_before xs) ≡ spread front xs
  unfolding spread behind
  is_spread front [] = refl
  is_spread front (x ∷ xs) =
      ap (λ (l : List A). f (l, x) ++ flat_map (behind front) (map (λ y. (x ∷ y.0, y.1)) (with_before xs))) (append-nil front)
      ∙ ap (λ (l : List B). f (front, x) ++ l)
      (shifted (behind front) (behind (front ++ x ∷ [])) (λ y. (x ∷ y.0, y.1)) (λ y. ap (λ (l : List A). f (l, y.1)) (sym (append_assoc front (x ∷ []) y.0))) (with_before xs)
      ∙ is_spread (front ++ x ∷ []) xs)

  pub spread_all : (xs : List A) → flat_map f (with_before xs) ≡ spread [] xs
  unfolding behind
  spread_all xs = is_spread [] xs
