-- One more declaration, or one more alternative.
use Rattle.std.proofs.Common.{◌≡◌, ◌<◌, ◌≤◌, ◌+◌, ℕ, List, ◌∷◌, length, get_or, drop, drop-cons, Option, None, Some, refl, ap, sym, ◌∙◌, add-one}
use Rattle.std.proofs.lemmas.List.{drop_all}
use Rattle.description_types.specs.Facts.{together, merged_from, added, known_together}

pub one_number : (xs : List ℕ) (i : ℕ) → i < length xs → drop i xs ≡ get_or xs i 0 ∷ drop (i + 1) xs
one_number xs i h = drop-cons xs i 0 h ∙ ap (λ (m : ℕ). get_or xs i 0 ∷ drop m xs) (sym (add-one i))

pub merged_step : {T : Type 0} (f : T → T → T) (value : ℕ → Option T) (so_far x y : Option T) (xs : List ℕ) (i : ℕ) → i < length xs → x ≡ value (get_or xs i 0) → y ≡ together f so_far x
    → merged_from f value y (drop (i + 1) xs) ≡ merged_from f value so_far (drop i xs)
merged_step f value so_far x y xs i h e k =
    ap (λ z. merged_from f value z (drop (i + 1) xs)) (k ∙ ap (together f so_far) e)
    ∙ sym (ap (merged_from f value so_far) (one_number xs i h))

added_none : {T : Type 0} (f : T → T → T) (x : Option T) → added f x None ≡ x
added_none f None = refl
added_none f (Some t) = refl

added_thrice : {T : Type 0} (f : T → T → T) → ((x y z : T) → f (f x y) z ≡ f x (f y z)) → (x y z : Option T) → added f (added f x y) z ≡ added f x (added f y z)
added_thrice f law None y z = refl
added_thrice f law (Some x) None z = refl
added_thrice f law (Some x) (Some y) None = refl
added_thrice {T = T} f law (Some x) (Some y) (Some z) = ap (λ (t : T). Some t) (law x y z)

pub added_step : {T : Type 0} (f : T → T → T) → ((x y z : T) → f (f x y) z ≡ f x (f y z)) → (value : ℕ → Option T) (so_far x y : Option T) (xs : List ℕ) (i : ℕ) → i < length xs → x ≡ value (get_or xs i 0) → y ≡ added f so_far x
    → added f y (known_together f value (drop (i + 1) xs)) ≡ added f so_far (known_together f value (drop i xs))
added_step f law value so_far x y xs i h e k =
    ap (λ z. added f z (known_together f value (drop (i + 1) xs))) (k ∙ ap (added f so_far) e)
    ∙ added_thrice f law so_far (value (get_or xs i 0)) (known_together f value (drop (i + 1) xs))
    ∙ sym (ap (λ (ys : List ℕ). added f so_far (known_together f value ys)) (one_number xs i h))

pub added_last : {T : Type 0} (f : T → T → T) (value : ℕ → Option T) (so_far : Option T) (xs : List ℕ) (i : ℕ) → length xs ≤ i → so_far ≡ added f so_far (known_together f value (drop i xs))
added_last f value so_far xs i h = sym (ap (λ (ys : List ℕ). added f so_far (known_together f value ys)) (drop_all i xs h) ∙ added_none f so_far)
