-- A number, digit by digit.
use Rattle.std.proofs.Common.{◌≡◌, ℕ, suc, ◌+◌, ◌*◌, ◌^◌, ◌<◌, ◌≤◌, Bool, true, ◌&&◌, List, ◌∷◌, length, drop, get_or, sym, ap, ◌∙◌, subst, arith, nat_lt, add-one}
use Rattle.std.proofs.lemmas.Bool.{and_parts, ltb-true, lt-ltb}
use Rattle.std.proofs.Math.Seq.{drop-cons}
use Rattle.std.proofs.Math.Nat.{mul-le-mul_left, pow-suc}
use Rattle.instruction_texts.specs.Runs.{digit, value, all_digits}
use Rattle.instruction_texts.specs.Leads.{IsUpTo}
use Rattle.instruction_texts.proofs.CommonRuns.{power_some}

-- what was read and what is left are the whole
pub record Summed (base : ℕ) (whole left : List ℕ) (sum : ℕ) : Type 0 where
  pub value_is : sum * base ^ length left + value base left ≡ value base whole
  pub digits_are : all_digits base left ≡ all_digits base whole

regroup : (s b q d v : ℕ) → (s * b + d) * q + v ≡ s * (q * b) + (d * q + v)
regroup s b q d v = grind arith

next_sum : (base : ℕ) (whole left : List ℕ) (c sum : ℕ) → Summed base whole (c ∷ left) sum → digit c < base → Summed base whole left (sum * base + digit c)
next_sum base whole left c sum is lt =
    let e : base ^ suc (length left) ≡ base ^ length left * base = pow-suc base (length left) in
    record {
      value_is = regroup sum base (base ^ length left) (digit c) (value base left) ∙ ap (λ (x : ℕ). sum * x + (digit c * base ^ length left + value base left)) (sym e) ∙ is.value_is;
      digits_are = ap (λ (b : Bool). b && all_digits base left) (sym (lt-ltb (digit c) base lt)) ∙ is.digits_are;
    }

pub sum_on : (base : ℕ) (whole : List ℕ) (i sum : ℕ) → Summed base whole (drop i whole) sum → i < length whole → digit (get_or whole i 0) < base → Summed base whole (drop (i + 1) whole) (sum * base + digit (get_or whole i 0))
sum_on base whole i sum is inside lt = rw add-one (next_sum base whole (drop (suc i) whole) (get_or whole i 0) sum (subst (λ (l : List ℕ). Summed base whole l sum) (drop-cons whole i 0 inside) is) lt)

pub too_large : (base high : ℕ) (whole : List ℕ) (i sum : ℕ) → 0 < base → Summed base whole (drop i whole) sum → i < length whole → digit (get_or whole i 0) < base → high < sum * base + digit (get_or whole i 0) → IsUpTo base high whole → ⊥
too_large base high whole i sum some is inside lt over up =
    let next = sum_on base whole i sum is inside lt in
    let l = drop (i + 1) whole in
    let p : 0 < base ^ length l = power_some base (length l) some in
    let v : (sum * base + digit (get_or whole i 0)) * base ^ length l + value base l ≡ value base whole = next.value_is in
    let m : (sum * base + digit (get_or whole i 0)) * 1 ≤ (sum * base + digit (get_or whole i 0)) * base ^ length l = mul-le-mul_left (sum * base + digit (get_or whole i 0)) p in
    omega (arith, up.1)

pub no_digit : (base high : ℕ) (whole : List ℕ) (i sum : ℕ) → Summed base whole (drop i whole) sum → i < length whole → base ≤ digit (get_or whole i 0) → IsUpTo base high whole → ⊥
no_digit base high whole i sum is inside le up =
    let e : all_digits base (get_or whole i 0 ∷ drop (suc i) whole) ≡ true = ap (all_digits base) (sym (drop-cons whole i 0 inside)) ∙ is.digits_are ∙ up.0 in
    let t = and_parts (nat_lt (digit (get_or whole i 0)) base) (all_digits base (drop (suc i) whole)) e in
    let lt = ltb-true (digit (get_or whole i 0)) base t.0 in omega arith
