-- What stands in the order of a text, put into preorder.
use Rattle.std.proofs.Common.{◌≡◌, ◌⊎◌, ◌<◌, ◌≤◌, ◌+◌, ◌++◌, ℕ, zero, suc, List, [], ◌∷◌, Some, length, refl, sym, ap, ◌∙◌, arith, inl, inr}
use Rattle.std.specs.Prelude.{slice_get}
use Rattle.lisa_syntax.specs.Orders.{IsOrder, IsInOrder}

-- the first fields have what stands where they stand
pub record ArePlaced {A : Type 0} (order : List ℕ) (all shown : List A) (n : ℕ) : Type 0 where
  pub long : length all ≡ n
  pub each : (i : ℕ) → i < n → (p : ℕ) × (slice_get order p ≡ Some i) × (slice_get all i ≡ slice_get shown p)

pub all_placed : {A : Type 0} (order : List ℕ) (all shown : List A) (n : ℕ) → IsOrder order → length order ≤ n → n ≤ length order → ArePlaced order all shown n → IsInOrder order all shown
all_placed {A = A} order all shown n is low high placed = record {
  long = let e = placed.long in omega (arith, e, low, high);
  placed = by;
}
  where
    by : (k i : ℕ) → slice_get order k ≡ Some i → slice_get all i ≡ slice_get shown k
    by k i e =
        let inside = is.inside k i e in
        let r = placed.each i (omega (arith, inside, low)) in
        r.2 ∙ ap (slice_get shown) (is.once r.0 k i r.1 e)

got_left : {A : Type 0} (xs ys : List A) (k : ℕ) → k < length xs → slice_get (xs ++ ys) k ≡ slice_get xs k
got_left [] ys k h = absurd (omega (arith, h))
got_left (x ∷ xs) ys zero h = refl
got_left (x ∷ xs) ys (suc k) h = got_left xs ys k (omega (arith, h))

got_last : {A : Type 0} (xs : List A) (y : A) → slice_get (xs ++ y ∷ []) (length xs) ≡ Some y
got_last [] y = refl
got_last (x ∷ xs) y = got_last xs y

long_more : {A : Type 0} (xs : List A) (y : A) → length (xs ++ y ∷ []) ≡ length xs + 1
long_more [] y = refl
long_more (x ∷ xs) y = let r = long_more xs y in omega (arith, r)

pub one_more : {A : Type 0} (order : List ℕ) (all next shown : List A) (n p : ℕ) (y : A) → ArePlaced order all shown n → slice_get order p ≡ Some n → slice_get shown p ≡ Some y → next ≡ all ++ y ∷ [] → ArePlaced order next shown (n + 1)
one_more {A = A} order all next shown n p y placed at is grown = record {
  long = let e = placed.long in ap length grown ∙ long_more all y ∙ ap (λ k. k + 1) e;
  each = each;
}
  where
    old : (i : ℕ) → i < n → (q : ℕ) × (slice_get order q ≡ Some i) × (slice_get next i ≡ slice_get shown q)
    old i h =
        let r = placed.each i h in
        let e = placed.long in
        (r.0, r.1, ap (λ (xs : List A). slice_get xs i) grown ∙ got_left all (y ∷ []) i (omega (arith, e, h)) ∙ r.2)

    last : (i : ℕ) → i ≡ n → (q : ℕ) × (slice_get order q ≡ Some i) × (slice_get next i ≡ slice_get shown q)
    last i e = (
      p,
      at ∙ ap Some (sym e),
      ap (λ (xs : List A). slice_get xs i) grown ∙ ap (slice_get (all ++ y ∷ [])) (e ∙ sym placed.long) ∙ got_last all y ∙ sym is,
    )

    each : (i : ℕ) → i < n + 1 → (q : ℕ) × (slice_get order q ≡ Some i) × (slice_get next i ≡ slice_get shown q)
    each i h = elim (last_or i n h) [ inl lt ↦ old i lt | inr e ↦ last i e ]
      where
        last_or : (i n : ℕ) → i < n + 1 → (i < n) ⊎ (i ≡ n)
        last_or zero zero h = inr refl
        last_or zero (suc n) h = inl (omega arith)
        last_or (suc i) zero h = absurd (omega (arith, h))
        last_or (suc i) (suc n) h = elim (last_or i n (omega (arith, h))) [ inl lt ↦ inl (omega (arith, lt)) | inr e ↦ inr (ap suc e) ]
