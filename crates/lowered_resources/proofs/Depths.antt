-- A depth that is a power of two, and how wide an index is.
use Rattle.std.proofs.Common.{◌≡◌, ◌<◌, ◌≤◌, ◌+◌, ◌*◌, ◌/◌, ◌%◌, ◌^◌, ◌∙◌, ℕ, zero, suc, refl, sym, ap, subst, arith, ⊎_elim}
use Rattle.std.specs.Prelude.{count_ones}
use Rattle.std.proofs.lemmas.Bool.{cases_lt, eqb-true}
use Rattle.std.proofs.lemmas.Nat.{leading_top, ones-le, ones_cat, zero_from_ones, pow-add, pow_pos}
use Rattle.std.proofs.Math.Pow.{pow_mono}
use Rattle.meaning_promises.specs.lisa_machine.Resolving.{IsDepth}
use Rattle.lowered_resources.specs.Reading.{index_width}

-- ---- a number with one bit is a power of two

digit : (n : ℕ) → n < 2 → count_ones n ≡ n
unfolding lib.Count.ones
digit zero low = refl
digit (suc zero) low = refl
digit (suc (suc n)) low = absurd (omega (arith, low))

halved : (n : ℕ) → count_ones n ≡ count_ones (n / 2) + n % 2
halved n =
    let parts : n ≡ n / 2 * 2 ^ 1 + n % 2 = omega arith in
    ap (λ (x : ℕ). count_ones x) parts ∙ ones_cat 1 (n / 2) (n % 2) (omega arith) ∙ ap (λ (x : ℕ). count_ones (n / 2) + x) (digit (n % 2) (omega arith))

power : (most n : ℕ) → n ≤ most → count_ones n ≡ 1 → (k : ℕ) × (n ≡ 2 ^ k)
power zero n low e = absurd (omega (arith, e, ones-le 0 n (omega (arith, low))))
power (suc most) n low e = by (n % 2) refl (λ half one. power most (n / 2) (omega (arith, low, half)) one)
  where
    by : (r : ℕ) → n % 2 ≡ r → (n % 2 ≡ 0 → count_ones (n / 2) ≡ 1 → (k : ℕ) × (n / 2 ≡ 2 ^ k)) → (k : ℕ) × (n ≡ 2 ^ k)
    by zero even below =
        let half = below even (omega (arith, e, even, halved n)) in
        let doubled : 2 ^ (half.0 + 1) ≡ 2 ^ half.0 * 2 ^ 1 = pow-add 2 half.0 1 in
        (half.0 + 1, omega (arith, even, half.1, doubled))
    by (suc zero) odd below = let none : n / 2 ≡ 0 = zero_from_ones (n / 2) (omega (arith, e, odd, halved n)) in (0, omega (arith, odd, none))
    by (suc (suc r)) h below = absurd (omega (arith, h))

-- ---- and the number of its digits, less one, is the power

power_grows : (j k : ℕ) → suc j ≤ k → 2 ^ suc j ≤ 2 ^ k
power_grows j k h = pow_mono h

same_power : (j k n : ℕ) → 2 ^ j ≤ n → n < 2 ^ suc j → n ≡ 2 ^ k → j ≡ k
same_power j k n low high is = ⊎_elim
    (λ less. let grows = power_grows j k (omega (arith, less)) in absurd (omega (arith, high, is, grows)))
    (λ more. ⊎_elim
    (λ less. let grows = power_grows k j (omega (arith, less)) in let some = pow_pos k in absurd (omega (arith, low, is, grows, some)))
    (λ least. omega (arith, more, least))
    (cases_lt k j))
    (cases_lt j k)

some_power : (k : ℕ) → 2 ≤ 2 ^ k → 1 ≤ k
some_power zero h = absurd (omega (arith, h))
some_power (suc k) h = omega arith

-- an index of a width tells as many cells apart as there are
pub record Tells (depth : ℕ) : Type 0 where
  pub is : depth ≡ 2 ^ index_width depth
  pub least : 1 ≤ index_width depth
  pub most : index_width depth ≤ 64

pub tells : (depth : ℕ) → IsDepth depth → Tells depth
tells depth h =
    let least = h.1 in
    let most = h.2 in
    let p = power depth depth (omega arith) (eqb-true (count_ones depth) 1 h.0) in
    let top = leading_top 64 depth (omega (arith, least)) (omega (arith, most)) in
    let wide : top.0 ≡ index_width depth = let a = top.1 in omega (arith, a) in
    let same = same_power top.0 p.0 depth top.2 top.3 p.1 in
    let is : depth ≡ 2 ^ index_width depth = p.1 ∙ ap (λ (k : ℕ). 2 ^ k) (sym same ∙ wide) in
    record {
      is = is;
      least = some_power (index_width depth) (subst (λ (n : ℕ). 2 ≤ n) is least);
      most = let a = top.1 in omega (arith, a, wide);
    }
