-- A search that halves.
use Rattle.std.proofs.Common.{◌≡◌, ℕ, zero, suc, ◌+◌, ◌-◌, ◌*◌, ◌/◌, ◌^◌, ◌<◌, ◌≤◌, List, length, sym, ap, ◌∙◌, arith}
use Rattle.std.specs.Prelude.{slice_index}
use Rattle.std.proofs.Common.{inl, inr, subst}
use Rattle.std.proofs.lemmas.Bool.{cases_eq}
use Rattle.std.proofs.Math.Nat.{mul-le-mul_right}
use Rattle.pattern_tables.specs.Rising.{IsRising}
use Rattle.instruction_trees.proofs.Numbers.{doubled}

pub record Halved (xs : List ℕ) (key low high made before now : ℕ) : Type 0 where
  pub order : low ≤ high
  pub within : high ≤ length xs
  pub below : (i : ℕ) → i < low → slice_index xs i < key
  pub above : (i : ℕ) → high ≤ i → i < length xs → key < slice_index xs i
  pub left : (high - low) * 2 ^ made ≤ length xs
  pub cost : 2 ^ made ≤ 2 * length xs + 1
  pub more : before ≤ now

at_start : (xs : List ℕ) (key high now : ℕ) → high ≡ length xs → Halved xs key 0 high 0 now now
at_start xs key high now size = record { order = omega arith; within = omega arith; below = λ i h. absurd (omega arith); above = λ i h inside. absurd (omega arith); left = omega arith; cost = omega arith; more = omega arith }

pub whole : (xs : List ℕ) (key high now : ℕ) → high ≡ length xs → Halved xs key 0 high (now - now) now now
whole xs key high now size = subst (λ (made : ℕ). Halved xs key 0 high made now now) {x = 0} {y = now - now} (omega arith) (at_start xs key high now size)

-- ---- one look at the middle

more_power : (before now : ℕ) → before ≤ now → 2 ^ (now + 1 - before) ≡ 2 ^ (now - before) + 2 ^ (now - before)
more_power before now le = ap (λ (k : ℕ). 2 ^ k) (omega arith) ∙ doubled (now - before)

halved : (s t q n : ℕ) → t + t ≤ s → s * q ≤ n → t * (q + q) ≤ n
halved s t q n le h = let k : (t + t) * q ≤ s * q = mul-le-mul_right q le in grind arith

lost : (s q n : ℕ) → 0 < s → s * q ≤ n → q ≤ n
lost zero q n pos h = absurd (omega arith)
lost (suc s) q n pos h = grind arith

pub spent : (xs : List ℕ) (key low high before now : ℕ) → Halved xs key low high (now - before) before now → low < high → 2 ^ (now + 1 - before) ≤ 2 * length xs + 1
spent xs key low high before now is lt = rw (more_power before now is.more) (let k : 2 ^ (now - before) ≤ length xs = lost (high - low) (2 ^ (now - before)) (length xs) (omega arith) is.left in omega arith)

fewer : (xs : List ℕ) (key low high before now size : ℕ) → Halved xs key low high (now - before) before now → size + size ≤ high - low → size * 2 ^ (now + 1 - before) ≤ length xs
fewer xs key low high before now size is le = rw (more_power before now is.more) (halved (high - low) size (2 ^ (now - before)) (length xs) le is.left)

pub went_right : (xs : List ℕ) (key low high before now middle : ℕ) → IsRising xs → Halved xs key low high (now - before) before now → low < high
    → middle ≡ low + (high - low) / 2 → slice_index xs middle < key → Halved xs key (middle + 1) high (now + 1 - before) before (now + 1)
went_right xs key low high before now middle rising is lt at less = record {
  order = omega arith;
  within = is.within;
  below = λ i h. elim (cases_eq i middle) [ inl e ↦ subst (λ (k : ℕ). slice_index xs k < key) (sym e) less | inr ne ↦ (let inside : middle < length xs = omega arith in let up : slice_index xs i < slice_index xs middle = rising i middle (omega arith) inside in omega arith) ];
  above = is.above;
  left = fewer xs key low high before now (high - (middle + 1)) is (omega arith);
  cost = spent xs key low high before now is lt;
  more = omega arith;
}

pub went_left : (xs : List ℕ) (key low high before now middle : ℕ) → IsRising xs → Halved xs key low high (now - before) before now → low < high
    → middle ≡ low + (high - low) / 2 → key < slice_index xs middle → Halved xs key low middle (now + 1 - before) before (now + 1)
went_left xs key low high before now middle rising is lt at greater = record {
  order = omega arith;
  within = omega (arith, is.within);
  below = is.below;
  above = λ i h inside. elim (cases_eq i middle) [ inl e ↦ subst (λ (k : ℕ). key < slice_index xs k) (sym e) greater | inr ne ↦ (let up : slice_index xs middle < slice_index xs i = rising middle i (omega arith) inside in omega arith) ];
  left = fewer xs key low high before now (middle - low) is (omega arith);
  cost = spent xs key low high before now is lt;
  more = omega arith;
}
