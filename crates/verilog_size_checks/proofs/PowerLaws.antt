-- Powers of two.
use Rattle.std.proofs.Common.{◌≡◌, ◌≢◌, ℕ, zero, suc, ◌*◌, ◌^◌, ◌%◌, ◌<◌, ◌≤◌, Bool, true, false, Some, None, refl, sym, ap, ◌∙◌, arith, ⊎_elim}
use Rattle.std.specs.Prelude.{nat_eq, if◌then◌else◌}
use Rattle.std.proofs.lemmas.Nat.{pow_pos}
use Rattle.std.proofs.lemmas.Bool.{cases_lt, eqb-true, eq-eqb, false≢true}
use Rattle.std.proofs.Math.Pow.{pow_mono}
use Rattle.std.proofs.Math.Nat.{mod-eq_of_lt}
use Rattle.verilog_size_checks.specs.Sought.{power_below, exponent}

below_power : (k : ℕ) → k < 2 ^ k
below_power zero = omega arith
below_power (suc k) = omega (arith, below_power k)

power_less : (j k : ℕ) → j < k → 2 ^ j < 2 ^ k
power_less j k less =
    let le : 2 ^ suc j ≤ 2 ^ k = pow_mono {i = suc j} {j = k} less in
    omega (arith, pow_pos j)

pub one_exponent : (j k : ℕ) → 2 ^ j ≡ 2 ^ k → j ≡ k
one_exponent j k is =
    ⊎_elim
    (λ less. let apart : 2 ^ j < 2 ^ k = power_less j k less in absurd (omega arith))
    (λ le. ⊎_elim (λ more. let apart : 2 ^ k < 2 ^ j = power_less k j more in absurd (omega arith)) (λ ge. omega arith) (cases_lt k j))
    (cases_lt j k)

below_found : (n k depth : ℕ) → k < n → 2 ^ k ≡ depth → power_below n depth ≡ Some k
below_found zero k depth less is = absurd (omega arith)
below_found (suc n) k depth less is = go (nat_eq (2 ^ n) depth) refl (λ before. below_found n k depth before is)
  where
    go : (b : Bool) → nat_eq (2 ^ n) depth ≡ b → (k < n → power_below n depth ≡ Some k) → (if b then Some n else power_below n depth) ≡ Some k
    go true same further =
        let e : 2 ^ n ≡ 2 ^ k = eqb-true (2 ^ n) depth same ∙ sym is in
        ap (λ (i : ℕ). Some i) (one_exponent n k e)
    go false other further =
        let differ : n ≢ k = λ e. false≢true (sym other ∙ eq-eqb (2 ^ n) depth (ap (λ (i : ℕ). 2 ^ i) e ∙ is)) in
        further (omega arith)

below_none : (n depth : ℕ) → ((k : ℕ) → 2 ^ k ≡ depth → ⊥) → power_below n depth ≡ None
below_none zero depth never = refl
below_none (suc n) depth never = go (nat_eq (2 ^ n) depth) refl (below_none n depth never)
  where
    go : (b : Bool) → nat_eq (2 ^ n) depth ≡ b → power_below n depth ≡ None → (if b then Some n else power_below n depth) ≡ None
    go true same further = absurd (never n (eqb-true (2 ^ n) depth same))
    go false other further = further

below_sound : (n k depth : ℕ) → power_below n depth ≡ Some k → 2 ^ k ≡ depth
below_sound zero k depth is = absurd cc
below_sound (suc n) k depth is = go (nat_eq (2 ^ n) depth) refl is (below_sound n k depth)
  where
    go : (b : Bool) → nat_eq (2 ^ n) depth ≡ b → (if b then Some n else power_below n depth) ≡ Some k → (power_below n depth ≡ Some k → 2 ^ k ≡ depth) → 2 ^ k ≡ depth
    go true same found further = let e : n ≡ k = cc in sym (ap (λ (i : ℕ). 2 ^ i) e) ∙ eqb-true (2 ^ n) depth same
    go false other found further = further found

pub exponent_found : (k depth : ℕ) → 2 ^ k ≡ depth → exponent depth ≡ Some k
unfolding exponent
exponent_found k depth is = below_found depth k depth (omega (arith, below_power k)) is

pub exponent_none : (depth : ℕ) → ((k : ℕ) → 2 ^ k ≡ depth → ⊥) → exponent depth ≡ None
unfolding exponent
exponent_none depth never = below_none depth depth never

pub exponent_sound : (k depth : ℕ) → exponent depth ≡ Some k → 2 ^ k ≡ depth
unfolding exponent
exponent_sound k depth is = below_sound depth k depth is

-- what a loop up to 32 has tried
pub small_none : (k depth : ℕ) → 32 ≤ k → depth < 2 ^ 32 → ((j : ℕ) → j < k → 2 ^ j ≡ depth → ⊥) → exponent depth ≡ None
small_none k depth last small never = exponent_none depth (λ j is. ⊎_elim (λ less. never j less is) (λ ge. let far : 2 ^ 32 ≤ 2 ^ j = pow_mono {i = 32} {j = j} (omega arith) in omega arith) (cases_lt j k))

pub small_found : (k depth : ℕ) → k < 32 → 1 * 2 ^ k % 2 ^ 64 ≡ depth → exponent depth ≡ Some k
small_found k depth less is =
    let near : 2 ^ k < 2 ^ 64 = power_less k 64 (omega arith) in
    let one : 1 * 2 ^ k ≡ 2 ^ k = omega arith in
    exponent_found k depth (sym (mod-eq_of_lt near) ∙ sym (ap (λ (n : ℕ). n % 2 ^ 64) one) ∙ is)
