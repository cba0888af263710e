-- An index that is masked counts modulo a depth that is a power of two.
use Rattle.std.proofs.Common.{◌≡◌, ◌<◌, ◌≤◌, ◌+◌, ◌-◌, ◌*◌, ◌/◌, ◌%◌, ◌^◌, ◌∙◌, ℕ, zero, suc, true, refl, sym, ap, arith}
use Rattle.std.specs.Prelude.{bit_and, count_ones}
use Rattle.std.specs.Int.{is_power_of_two}
use Rattle.std.proofs.lemmas.Bool.{eqb-true}
use Rattle.std.proofs.lemmas.Nat.{and_mask, ones-le, ones_cat, zero_from_ones, pow-add}

digit : (n : ℕ) → n < 2 → count_ones n ≡ n
unfolding lib.Count.ones
digit zero low = refl
digit (suc zero) low = refl
digit (suc (suc n)) low = absurd (omega (arith, low))

halved : (n : ℕ) → count_ones n ≡ count_ones (n / 2) + n % 2
halved n =
    let parts : n ≡ n / 2 * 2 ^ 1 + n % 2 = omega arith in
    ap (λ (x : ℕ). count_ones x) parts ∙ ones_cat 1 (n / 2) (n % 2) (omega arith) ∙ ap (λ (x : ℕ). count_ones (n / 2) + x) (digit (n % 2) (omega arith))

-- a number with one bit is a power of two
power : (most n : ℕ) → n ≤ most → count_ones n ≡ 1 → (k : ℕ) × (n ≡ 2 ^ k)
power zero n low e = absurd (omega (arith, e, ones-le 0 n (omega (arith, low))))
power (suc most) n low e = by (n % 2) refl (λ half one. power most (n / 2) (omega (arith, low, half)) one)
  where
    by : (r : ℕ) → n % 2 ≡ r → (n % 2 ≡ 0 → count_ones (n / 2) ≡ 1 → (k : ℕ) × (n / 2 ≡ 2 ^ k)) → (k : ℕ) × (n ≡ 2 ^ k)
    by zero even below =
        let half = below even (omega (arith, e, even, halved n)) in
        let doubled : 2 ^ (half.0 + 1) ≡ 2 ^ half.0 * 2 ^ 1 = pow-add 2 half.0 1 in
        (half.0 + 1, omega (arith, even, half.1, doubled))
    by (suc zero) odd below = let none : n / 2 ≡ 0 = zero_from_ones (n / 2) (omega (arith, e, odd, halved n)) in (0, omega (arith, odd, none))
    by (suc (suc r)) h below = absurd (omega (arith, h))

pub wraps : (index depth : ℕ) → is_power_of_two depth ≡ true → bit_and index (depth - 1) ≡ index % depth
wraps index depth is =
    let p = power depth depth (omega arith) (eqb-true (count_ones depth) 1 is) in
    ap (λ (n : ℕ). bit_and index (n - 1)) p.1 ∙ and_mask index p.0 ∙ ap (λ (n : ℕ). index % n) (sym p.1)
