-- Lists in blocks of one size.
use Rattle.std.proofs.Common.{◌≡◌, ◌<◌, ◌≤◌, ◌+◌, ◌*◌, ◌∙◌, ℕ, zero, suc, List, ◌++◌, length, get_or, ap, ap₂, arith, ⊎_elim}
use Rattle.std.specs.List.{flat_map, range_with_len}
use Rattle.std.proofs.Math.Nat.{mul-le-mul_right}
use Rattle.std.proofs.lemmas.Bool.{cases_order}
use Rattle.std.proofs.lemmas.List.{length-append, get_or_append_left, get_or-append-add}

-- ---- places in blocks

pub in_block : (s n size k : ℕ) → s < n → k < size → s * size + k < n * size
in_block s n size k low small =
    let most : suc s * size ≤ n * size = mul-le-mul_right size (let h : suc s ≤ n = omega (arith, low) in h) in
    let next : suc s * size ≡ size + s * size = grind arith in
    omega (arith, most, next, small)

later_block : (s t size k l : ℕ) → k < size → s < t → s * size + k ≡ t * size + l → ⊥
later_block s t size k l small low e = let h = in_block s t size k low small in omega (arith, h, e)

pub same_block : (s t size k l : ℕ) → k < size → l < size → s * size + k ≡ t * size + l → (s ≡ t) × (k ≡ l)
same_block s t size k l small other e = ⊎_elim
    (λ same. (same, at same))
    (λ apart. absurd (⊎_elim (λ low. later_block s t size k l small low e) (λ high. later_block t s size l k other high (omega (arith, e))) apart))
    (cases_order s t)
  where
    at : s ≡ t → k ≡ l
    at same = let products : s * size ≡ t * size = ap (λ (n : ℕ). n * size) same in omega (arith, products, e)

-- ---- what stands there

module _ (f : ℕ → List ℕ) (size : ℕ) (each : (s : ℕ) → length (f s) ≡ size) where
  pub blocks_length : (a n : ℕ) → length (flat_map f (range_with_len a n)) ≡ n * size
  blocks_length a zero = grind arith
  blocks_length a (suc n) =
      let next : size + n * size ≡ suc n * size = grind arith in
      length-append (f a) (flat_map f (range_with_len (a + 1) n)) ∙ ap₂ (λ (x y : ℕ). x + y) (each a) (blocks_length (a + 1) n) ∙ next

  pub blocks_at : (a n i k : ℕ) → i < n → k < size → get_or (flat_map f (range_with_len a n)) (i * size + k) 0 ≡ get_or (f (a + i)) k 0
  blocks_at a zero i k low small = absurd (omega (arith, low))
  blocks_at a (suc n) zero k low small =
      let rest = flat_map f (range_with_len (a + 1) n) in
      let here : zero * size + k ≡ k = grind arith in
      let first : a ≡ a + 0 = omega arith in
      let long = each a in
      ap (λ (m : ℕ). get_or (f a ++ rest) m 0) here ∙ get_or_append_left (f a) rest 0 k (omega (arith, long, small)) ∙ ap (λ (m : ℕ). get_or (f m) k 0) first
  blocks_at a (suc n) (suc i) k low small =
      let rest = flat_map f (range_with_len (a + 1) n) in
      let next : suc i * size ≡ size + i * size = grind arith in
      let long = each a in
      let here : suc i * size + k ≡ length (f a) + (i * size + k) = omega (arith, next, long) in
      let further : a + 1 + i ≡ a + suc i = omega arith in
      ap (λ (m : ℕ). get_or (f a ++ rest) m 0) here ∙ get_or-append-add (f a) rest (i * size + k) 0
      ∙ blocks_at (a + 1) n i k (omega (arith, low)) small
      ∙ ap (λ (m : ℕ). get_or (f m) k 0) further
