-- The operations on 64 bits, cut to a length, are those of the length. No operand needs to be within it.
use Rattle.std.proofs.Common.{◌≡◌, ℕ, ◌+◌, ◌-◌, ◌*◌, ◌/◌, ◌%◌, ◌^◌, ◌<◌, ◌≤◌, sym, ap, ◌∙◌, ⊎_elim, arith}
use Rattle.std.proofs.lemmas.Bool.{cases_lt}
use Rattle.std.proofs.lemmas.Nat.{pow-add, pow_pos}
use Rattle.std.proofs.Math.Nat.{add-mul-mod_self_right, mod-eq_of_lt}
use Rattle.std.specs.Prelude.{bit_and, pos, negsuc, ◌-ℤ◌}
use Rattle.lisa_words.specs.Words.{reduced, word_not}
use Rattle.lisa_words.proofs.Reduced.{masked, low_bits, minus_up, minus_down, none_above, none_below}
use Rattle.lisa_words.proofs.WordLaws.{reduced_twice}

whole : (w : ℕ) → w ≤ 64 → 2 ^ (64 - w) * 2 ^ w ≡ 2 ^ 64
whole w most = sym (pow-add 2 (64 - w) w) ∙ ap (λ k. 2 ^ k) {y = 64} (omega arith)

wraps_up : (a b p q : ℕ) → b ≤ a → b < 2 ^ 64 → q * p ≡ 2 ^ 64 → (a + (2 ^ 64 - b)) % p ≡ (a - b) % p
wraps_up a b p q le fits is =
    let e : a + (2 ^ 64 - b) ≡ (a - b) + q * p = omega arith in
    ap (λ x. x % p) e ∙ add-mul-mod_self_right (a - b) q p

wraps_down : (a b w : ℕ) → a < b → b < 2 ^ 64 → w ≤ 64 → (a + (2 ^ 64 - b)) % 2 ^ w ≡ reduced (negsuc (b - a - 1)) w
wraps_down a b w lt fits most =
    let n : ℕ = b - a - 1 in
    let small : n % 2 ^ 64 ≡ n = mod-eq_of_lt (omega arith) in
    let e : a + (2 ^ 64 - b) ≡ 2 ^ 64 - 1 - n % 2 ^ 64 = omega (arith, small) in
    ap (λ x. x % 2 ^ w) e ∙ reduced_twice (negsuc n) 64 w most

pub difference_any : (w a b m : ℕ) → w ≤ 64 → b < 2 ^ 64 → m + 1 ≡ 2 ^ w → bit_and ((a + (2 ^ 64 - b)) % 2 ^ 64) m ≡ reduced (pos a -ℤ pos b) w
difference_any w a b m most fits is =
    masked w (a + (2 ^ 64 - b)) m most is ∙
    ⊎_elim
    (λ lt. wraps_down a b w lt fits most ∙ sym (ap (λ z. reduced z w) (minus_down a b lt)))
    (λ le. wraps_up a b (2 ^ w) (2 ^ (64 - w)) le fits (whole w most) ∙ sym (ap (λ z. reduced z w) (minus_up a b le)))
    (cases_lt a b)

pub complement_any : (w a m : ℕ) → w ≤ 64 → a < 2 ^ 64 → m + 1 ≡ 2 ^ w → bit_and (2 ^ 64 - 1 - a) m ≡ word_not w a
complement_any w a m most fits is =
    let small : a % 2 ^ 64 ≡ a = mod-eq_of_lt fits in
    low_bits w (2 ^ 64 - 1 - a) m is ∙ ap (λ k. (2 ^ 64 - 1 - k) % 2 ^ w) (sym small) ∙ reduced_twice (negsuc a) 64 w most

pub left_far : (w a by : ℕ) → w ≤ 64 → 64 ≤ by → 0 ≡ a * 2 ^ by % 2 ^ w
left_far w a by most far = sym (none_above w a by (omega arith))

pub right_near : (w a by m : ℕ) → m + 1 ≡ 2 ^ w → bit_and (a / 2 ^ by) m ≡ a / 2 ^ by % 2 ^ w
right_near w a by m is = low_bits w (a / 2 ^ by) m is

pub right_far : (w a by : ℕ) → a < 2 ^ 64 → 64 ≤ by → 0 ≡ a / 2 ^ by % 2 ^ w
right_far w a by fits far =
    let none : 0 % 2 ^ w ≡ 0 = mod-eq_of_lt (pow_pos w) in
    sym (ap (λ k. k % 2 ^ w) (none_below 64 a by far fits) ∙ none)
