-- The first item that passes a test, sought from the front.
use Rattle.std.proofs.Common.{◌≡◌, ℕ, zero, suc, ◌+◌, ◌<◌, ◌≤◌, Bool, true, false, cond, List, [], ◌∷◌, ◌++◌, length, take, drop, get_or, map, Some, None, refl, sym, ap, ◌∙◌, arith}
use Rattle.std.specs.Prelude.{find}
use Rattle.std.proofs.lemmas.List.{drop_more, drop_all, take_more, map-append}

-- what is found among all is found among those that are left
abbrev pub IsSought : {X : Type 0} → (X → Bool) → List X → ℕ → Type 0
IsSought p xs i = find p (drop i xs) ≡ find p xs

module _ {X : Type 0} (p : X → Bool) (xs : List X) (i : ℕ) (x : X) (within : i < length xs) (is : x ≡ get_or xs i x) (sought : IsSought p xs i) where
  opened : drop i xs ≡ x ∷ drop (i + 1) xs
  opened = drop_more xs i x within ∙ ap (λ (y : X). y ∷ drop (i + 1) xs) (sym is)

  pub sought_here : p x ≡ true → find p xs ≡ Some x
  sought_here e = sym sought ∙ ap (find p) opened ∙ ap (λ (b : Bool). cond b (Some x) (find p (drop (i + 1) xs))) e

  pub sought_on : p x ≡ false → IsSought p xs (i + 1)
  sought_on e = sym (ap (find p) opened ∙ ap (λ (b : Bool). cond b (Some x) (find p (drop (i + 1) xs))) e) ∙ sought

pub sought_none : {X : Type 0} (p : X → Bool) (xs : List X) (i : ℕ) → length xs ≤ i → IsSought p xs i → find p xs ≡ None
sought_none p xs i all sought = sym sought ∙ ap (find p) (drop_all i xs all)

-- where none passes, each fails
pub each_fails : {X : Type 0} (p : X → Bool) (P : X → Type 0) (xs : List X) → ((x : X) → p x ≡ false → P x) → find p xs ≡ None → (i : ℕ) (d : X) → i < length xs → P (get_or xs i d)
each_fails p P [] from e i d within = absurd (omega arith)
each_fails p P (x ∷ xs) from e i d within = go (p x) refl e i within (λ f j less. each_fails p P xs from f j d less)
  where
    go : (b : Bool) → p x ≡ b → cond b (Some x) (find p xs) ≡ None → (i : ℕ) → i < suc (length xs) → (find p xs ≡ None → (j : ℕ) → j < length xs → P (get_or xs j d)) → P (get_or (x ∷ xs) i d)
    go true f e i within rec = absurd cc
    go false f e zero within rec = from x f
    go false f e (suc j) within rec = rec e j (omega arith)

-- one more item of a list that is mapped
pub map_more : {X Y : Type 0} (f : X → Y) (xs : List X) (i : ℕ) (x : X) → i < length xs → x ≡ get_or xs i x → map f (take i xs) ++ f x ∷ [] ≡ map f (take (i + 1) xs)
map_more f xs i x within is =
    ap (λ (y : _). map f (take i xs) ++ f y ∷ []) is
    ∙ sym (ap (map f) (take_more xs i x within) ∙ map-append f (take i xs) (get_or xs i x ∷ []))
