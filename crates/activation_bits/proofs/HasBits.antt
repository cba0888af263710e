-- Bits of words.
use Rattle.std.proofs.Common.{◌≡◌, ℕ, ◌-◌, ◌*◌, ◌%◌, ◌^◌, ◌<◌, ◌≤◌, min, max, Bool, true, false, not, ◌&&◌, ◌||◌, sym, ap, ◌∙◌, ⊎_elim, arith, nat_eq}
use Rattle.std.specs.Prelude.{bit_and, bit_or}
use Rattle.std.specs.Int.{bit_at, w64, trailing_zeros}
use Rattle.std.proofs.lemmas.Bool.{eq-eqb, ne_eqb, cases_eq, cases_lt, both_ways}
use Rattle.std.proofs.lemmas.Nat.{pow_below}
use Rattle.std.proofs.lemmas.Nat.Bits.{bit_at_and, bit_at_or, bit_at_not, bit_at-zero, bit_at-lt, bit_at-pow_same, bit_at-pow_other, ones_shl, bit_at_mask_inside, bit_at_mask_below, bit_at-trailing_zeros}
use Rattle.std.proofs.Math.Nat.{mod-eq_of_lt, one-mul}
use Rattle.activation_bits.specs.Members.{has}

lesser : (x y : ℕ) → x < 2 → y < 2 → nat_eq (min x y) 1 ≡ (nat_eq x 1 && nat_eq y 1)
lesser x y h k = grind arith

greater : (x y : ℕ) → x < 2 → y < 2 → nat_eq (max x y) 1 ≡ (nat_eq x 1 || nat_eq y 1)
greater x y h k = grind arith

turned : (x : ℕ) → x < 2 → nat_eq (1 - x) 1 ≡ not (nat_eq x 1)
turned x h = grind arith

pub has_and : (a b bit : ℕ) → has (bit_and a b) bit ≡ (has a bit && has b bit)
has_and a b bit = ap (λ n. nat_eq n 1) (bit_at_and a b bit) ∙ lesser (bit_at a bit) (bit_at b bit) (bit_at-lt a bit) (bit_at-lt b bit)

pub has_or : (a b bit : ℕ) → has (bit_or a b) bit ≡ (has a bit || has b bit)
has_or a b bit = ap (λ n. nat_eq n 1) (bit_at_or a b bit) ∙ greater (bit_at a bit) (bit_at b bit) (bit_at-lt a bit) (bit_at-lt b bit)

pub has_not : (a bit : ℕ) → a < 2 ^ 64 → bit < 64 → has (2 ^ 64 - 1 - a) bit ≡ not (has a bit)
has_not a bit h k = ap (λ n. nat_eq n 1) (bit_at_not w64 a bit h k) ∙ turned (bit_at a bit) (bit_at-lt a bit)

pub has_none : (bit : ℕ) → has 0 bit ≡ false
has_none bit = ap (λ n. nat_eq n 1) (bit_at-zero bit)

has_one : (k bit : ℕ) → has (2 ^ k) bit ≡ nat_eq bit k
has_one k bit =
    ⊎_elim
    (λ e. ap (λ j. has (2 ^ k) j) e ∙ ap (λ m. nat_eq m 1) (bit_at-pow_same k) ∙ sym (eq-eqb bit k e))
    (λ e. ap (λ m. nat_eq m 1) (bit_at-pow_other k bit e) ∙ sym (ne_eqb bit k e))
    (cases_eq bit k)

-- the word of one bit
pub has_single : (k bit : ℕ) → k < 64 → has (1 * 2 ^ k % 2 ^ 64) bit ≡ nat_eq bit k
has_single k bit h =
    let small : 1 * 2 ^ k < 2 ^ 64 = omega (arith, pow_below k 64 h) in
    ap (λ n. has n bit) (mod-eq_of_lt small ∙ one-mul (2 ^ k)) ∙ has_one k bit

-- the bits of a word from a place on
unfoldable pub from_on : ℕ → ℕ → ℕ
from_on word from = bit_and word ((2 ^ 64 - 1) * 2 ^ from % 2 ^ 64)

all_true : (x : Bool) → (x && true) ≡ x
all_true x = grind arith

all_false : (x : Bool) → (x && false) ≡ false
all_false x = grind arith

has_inside : (word from bit : ℕ) → from < 64 → from ≤ bit → bit < 64 → has (from_on word from) bit ≡ has word bit
unfolding from_on
has_inside word from bit h low high =
    has_and word ((2 ^ 64 - 1) * 2 ^ from % 2 ^ 64) bit
    ∙ ap (λ b. has word bit && b) (ap (λ n. has n bit) (ones_shl 64 from (omega arith)) ∙ ap (λ n. nat_eq n 1) (bit_at_mask_inside from 64 bit low high))
    ∙ all_true (has word bit)

has_below : (word from bit : ℕ) → from < 64 → bit < from → has (from_on word from) bit ≡ false
unfolding from_on
has_below word from bit h low =
    has_and word ((2 ^ 64 - 1) * 2 ^ from % 2 ^ 64) bit
    ∙ ap (λ b. has word bit && b) (ap (λ n. has n bit) (ones_shl 64 from (omega arith)) ∙ ap (λ n. nat_eq n 1) (bit_at_mask_below from 64 bit low))
    ∙ all_false (has word bit)

pub none_from : (word from : ℕ) → from < 64 → from_on word from ≡ 0 → (bit : ℕ) → from ≤ bit → bit < 64 → has word bit ≡ false
none_from word from h e bit low high = sym (has_inside word from bit h low high) ∙ ap (λ n. has n bit) e ∙ has_none bit

pub least : (word from : ℕ) → from < 64 → 0 < from_on word from → from_on word from < 2 ^ 64 → (from ≤ trailing_zeros w64 (from_on word from)) × (trailing_zeros w64 (from_on word from) < 64) × (has word (trailing_zeros w64 (from_on word from)) ≡ true) × ((bit : ℕ) → from ≤ bit → bit < trailing_zeros w64 (from_on word from) → has word bit ≡ false)
least word from h some small =
    let t = bit_at-trailing_zeros w64 (from_on word from) some small in
    let z = trailing_zeros w64 (from_on word from) in
    let is : has (from_on word from) z ≡ true = eq-eqb (bit_at (from_on word from) z) 1 t.1 in
    let low : from ≤ z = ⊎_elim (λ below. absurd (both_ways _ (has_below word from z h below) is)) (λ l. l) (cases_lt z from) in (
      low,
      t.0,
      sym (has_inside word from z h low t.0) ∙ is,
      λ bit above below. sym (has_inside word from bit h above (omega (arith, t.0))) ∙ ap (λ n. nat_eq n 1) (t.2 bit below),
    )
