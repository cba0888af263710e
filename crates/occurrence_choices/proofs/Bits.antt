-- Rows of bits that grow number by number.
use Rattle.std.proofs.Common.{◌≡◌, ◌≢◌, ℕ, zero, suc, ◌+◌, ◌/◌, Bool, true, false, ◌&&◌, ◌||◌, nat_eq, nat_lt, refl, sym, ap, ◌∙◌, ⊎_elim, arith}
use Rattle.std.specs.Prelude.{replicate, slice_index, ◌%◌}
use Rattle.std.proofs.lemmas.Bool.{cases_eq, eq-eqb, ne_eqb, lt-ltb}
use Rattle.std.proofs.lemmas.Bool.Decides.{nat_tests}
use Rattle.activation_bits.specs.Members.{has, member}
use Rattle.activation_bits.proofs.HasBits.{has_none}

zero_at : (n i : ℕ) → slice_index (replicate n 0) i ≡ 0
zero_at zero i = refl
zero_at (suc n) zero = refl
zero_at (suc n) (suc i) = zero_at n i

-- no number is in a row of zeros
pub member_none : (n k : ℕ) → member (replicate n 0) k ≡ false
member_none n k = ap (λ (w : ℕ). has w (k % 64)) (zero_at n (k / 64)) ∙ has_none (k % 64)

here : (x y z w : Bool) → z ≡ true → y ≡ true → w ≡ true → ((x && w) || z) ≡ (y && w)
here x y z w a b c = grind arith

there : (x y z w : Bool) → z ≡ false → x ≡ y → ((x && w) || z) ≡ (y && w)
there x y z w a b = grind arith

not_here : (x y w : Bool) → x ≡ false → w ≡ false → (x && w) ≡ (y && w)
not_here x y w a b = grind arith

same_side : (x y w : Bool) → x ≡ y → (x && w) ≡ (y && w)
same_side x y w e = ap (λ (b : Bool). b && w) e

module _ (n : ℕ) (wanted old : ℕ → Bool) (so_far : (k : ℕ) → old k ≡ (nat_lt k n && wanted k)) where
  -- a number is put into the row where it is wanted
  pub one_put : (new : ℕ → Bool) → ((k : ℕ) → new k ≡ (old k || nat_eq k n)) → wanted n ≡ true → (k : ℕ) → new k ≡ (nat_lt k (n + 1) && wanted k)
  one_put new put is k = put k ∙ ap (λ (b : Bool). b || nat_eq k n) (so_far k) ∙ ⊎_elim same other (cases_eq k n)
    where
      same : k ≡ n → ((nat_lt k n && wanted k) || nat_eq k n) ≡ (nat_lt k (n + 1) && wanted k)
      same e = here (nat_lt k n) (nat_lt k (n + 1)) (nat_eq k n) (wanted k) (eq-eqb k n e) (lt-ltb k (n + 1) (omega (arith, e))) (ap wanted e ∙ is)

      other : k ≢ n → ((nat_lt k n && wanted k) || nat_eq k n) ≡ (nat_lt k (n + 1) && wanted k)
      other ne = there (nat_lt k n) (nat_lt k (n + 1)) (nat_eq k n) (wanted k) (ne_eqb k n ne) (let e : nat_lt k n ≡ nat_lt k (n + 1) = grind (arith, nat_tests) in e)

  -- and else the row stays
  pub none_put : wanted n ≡ false → (k : ℕ) → old k ≡ (nat_lt k (n + 1) && wanted k)
  none_put is k = so_far k ∙ ⊎_elim same other (cases_eq k n)
    where
      same : k ≡ n → (nat_lt k n && wanted k) ≡ (nat_lt k (n + 1) && wanted k)
      same e = not_here (nat_lt k n) (nat_lt k (n + 1)) (wanted k) (let t : nat_lt k n ≡ false = grind (arith, nat_tests) in t) (ap wanted e ∙ is)

      other : k ≢ n → (nat_lt k n && wanted k) ≡ (nat_lt k (n + 1) && wanted k)
      other ne = same_side (nat_lt k n) (nat_lt k (n + 1)) (wanted k) (let e : nat_lt k n ≡ nat_lt k (n + 1) = grind (arith, nat_tests) in e)

-- what is below the number counts alone
pub wanted_below : (n k : ℕ) (w : Bool) → nat_lt k n ≡ true → (nat_lt k n && w) ≡ w
wanted_below n k w below = grind arith

-- a number is told where it is wanted
pub one_told : (n : ℕ) (wanted old : ℕ → Bool) → ((k : ℕ) → old k ≡ (nat_lt k n && wanted k)) → (new : ℕ → Bool) (told : Bool) → told ≡ wanted n → ((k : ℕ) → new k ≡ (old k || (told && nat_eq k n))) → (k : ℕ) → new k ≡ (nat_lt k (n + 1) && wanted k)
one_told n wanted old so_far new true is put = one_put n wanted old so_far new put (sym is)
one_told n wanted old so_far new false is put = λ k. put k ∙ or_none (old k) ∙ none_put n wanted old so_far (sym is) k
  where
    or_none : (a : Bool) → (a || false) ≡ a
    or_none a = grind arith
