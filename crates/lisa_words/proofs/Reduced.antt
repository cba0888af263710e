-- Masks, sums and differences as numbers reduced to a width.
use Rattle.std.proofs.Common.{◌≡◌, ℕ, zero, suc, ◌+◌, ◌-◌, ◌*◌, ◌/◌, ◌%◌, ◌^◌, ◌<◌, ◌≤◌, sym, ap, ◌∙◌, ⊎_elim, arith}
use Rattle.std.proofs.lemmas.Bool.{cases_lt}
use Rattle.std.proofs.lemmas.Int.{ints}
use Rattle.std.proofs.lemmas.Nat.{and_mask, pow_pos, pow-add}
use Rattle.std.proofs.lemmas.Nat.Bits.{ones_shr}
use Rattle.std.proofs.Math.Nat.{add-mul-mod_self_right, div-eq_of_lt, mod-eq_of_lt, mul-mod_left}
use Rattle.std.proofs.Math.Pow.{mod-mod-pow, not_mod, pow_mono}
use Rattle.std.specs.Int.{int_div_euclid}
use Rattle.std.specs.Prelude.{bit_and, ℤ, pos, negsuc, ◌-ℤ◌}
use Rattle.lisa_words.specs.Words.{reduced, word_not}

pub ones : (w : ℕ) → w ≤ 64 → (2 ^ 64 - 1) / 2 ^ (64 - w) + 1 ≡ 2 ^ w
ones w most =
    let e : 64 - (64 - w) ≡ w = omega arith in
    let f = ones_shr 64 (64 - w) (omega arith) in
    let g : 2 ^ (64 - (64 - w)) ≡ 2 ^ w = ap (λ k. 2 ^ k) e in
    omega (arith, f, g, pow_pos w)

pub cut_twice : (w s : ℕ) → w ≤ 64 → s % 2 ^ 64 % 2 ^ w ≡ s % 2 ^ w
cut_twice w s most =
    let e : 64 - w + w ≡ 64 = omega arith in
    sym (ap (λ k. s % 2 ^ k % 2 ^ w) e) ∙ mod-mod-pow s (64 - w) w

pub masked : (w s m : ℕ) → w ≤ 64 → m + 1 ≡ 2 ^ w → bit_and (s % 2 ^ 64) m ≡ s % 2 ^ w
masked w s m most is =
    let e : m ≡ 2 ^ w - 1 = omega arith in
    rw (e, and_mask) (cut_twice w s most)

-- a difference, in both cases
pub minus_up : (a b : ℕ) → b ≤ a → pos a -ℤ pos b ≡ pos (a - b)
minus_up a b le = omega (arith, ints)

pub minus_down : (a b : ℕ) → a < b → pos a -ℤ pos b ≡ negsuc (b - a - 1)
minus_down a b lt = omega (arith, ints)

wraps_up : (a b p q : ℕ) → b ≤ a → b < 2 ^ 64 → q * p ≡ 2 ^ 64 → (a + (2 ^ 64 - b)) % p ≡ (a - b) % p
wraps_up a b p q le fits whole =
    let e : a + (2 ^ 64 - b) ≡ (a - b) + q * p = omega arith in
    ap (λ x. x % p) e ∙ add-mul-mod_self_right (a - b) q p

wraps_down : (a b p q : ℕ) → a < b → b < p → q * p ≡ 2 ^ 64 → (a + (2 ^ 64 - b)) % p ≡ p - 1 - (b - a - 1) % p
wraps_down a b p zero lt fits whole = absurd (omega arith)
wraps_down a b p (suc r) lt fits whole =
    let f : r * p + p ≡ 2 ^ 64 = omega arith in
    let e : a + (2 ^ 64 - b) ≡ (p - (b - a)) + r * p = omega arith in
    let g : (b - a - 1) % p ≡ b - a - 1 = mod-eq_of_lt (omega arith) in
    let h : (p - (b - a)) % p ≡ p - (b - a) = mod-eq_of_lt (omega arith) in
    ap (λ x. x % p) e ∙ add-mul-mod_self_right (p - (b - a)) r p ∙ h ∙ omega arith

pub difference : (w a b m : ℕ) → w ≤ 64 → a < 2 ^ w → b < 2 ^ w → m + 1 ≡ 2 ^ w → b < 2 ^ 64 → bit_and ((a + (2 ^ 64 - b)) % 2 ^ 64) m ≡ reduced (pos a -ℤ pos b) w
difference w a b m most fits_a fits_b is fits =
    let whole : 2 ^ (64 - w) * 2 ^ w ≡ 2 ^ 64 = sym (pow-add 2 (64 - w) w) ∙ ap (λ k. 2 ^ k) {y = 64} (omega arith) in
    masked w (a + (2 ^ 64 - b)) m most is ∙
    ⊎_elim
    (λ lt. wraps_down a b (2 ^ w) (2 ^ (64 - w)) lt fits_b whole ∙ sym (ap (λ z. reduced z w) (minus_down a b lt)))
    (λ le. wraps_up a b (2 ^ w) (2 ^ (64 - w)) le fits whole ∙ sym (ap (λ z. reduced z w) (minus_up a b le)))
    (cases_lt a b)

-- the numbers below 2 ^ w have as many bits, and a mask leaves them
pub low_bits : (w n m : ℕ) → m + 1 ≡ 2 ^ w → bit_and n m ≡ n % 2 ^ w
low_bits w n m is =
    let e : m ≡ 2 ^ w - 1 = omega arith in
    rw e (and_mask n w)

pub turned_round : (w a m : ℕ) → w ≤ 64 → a < 2 ^ w → m + 1 ≡ 2 ^ w → bit_and (2 ^ 64 - 1 - a) m ≡ 2 ^ w - 1 - a % 2 ^ w
turned_round w a m most fits is =
    let whole : 2 ^ (64 - w + w) ≡ 2 ^ 64 = ap (λ k. 2 ^ k) {x = 64 - w + w} {y = 64} (omega arith) in
    let e : (2 ^ (64 - w + w) - 1 - a) % 2 ^ w ≡ 2 ^ w - 1 - a = not_mod (64 - w) w fits in
    let small : a % 2 ^ w ≡ a = mod-eq_of_lt fits in
    low_bits w (2 ^ 64 - 1 - a) m is ∙ ap (λ k. (k - 1 - a) % 2 ^ w) (sym whole) ∙ e ∙ ap (λ k. 2 ^ w - 1 - k) (sym small)

-- a shift by the width or more leaves nothing
pub none_above : (w a by : ℕ) → w ≤ by → a * 2 ^ by % 2 ^ w ≡ 0
none_above w a by far =
    let e : 2 ^ by ≡ 2 ^ (by - w) * 2 ^ w = ap (λ k. 2 ^ k) {x = by} {y = by - w + w} (omega arith) ∙ pow-add 2 (by - w) w in
    let f : a * 2 ^ by ≡ a * 2 ^ (by - w) * 2 ^ w = omega (arith, ap (λ k. a * k) e) in
    ap (λ k. k % 2 ^ w) f ∙ mul-mod_left (a * 2 ^ (by - w)) (2 ^ w)

pub none_below : (w a by : ℕ) → w ≤ by → a < 2 ^ w → a / 2 ^ by ≡ 0
none_below w a by far fits =
    let less : 2 ^ w ≤ 2 ^ by = pow_mono far in
    div-eq_of_lt (omega arith)

-- a word that means the number below 0, at a greater width and moved down
pub widened : (v w bits m n : ℕ) (z : ℤ) → v ≤ w → bits < 2 ^ v → m + 1 ≡ 2 ^ v → n + 1 ≡ 2 ^ w → z ≡ negsuc (2 ^ v - 1 - bits) → n - (m - bits) ≡ reduced z w
widened v w bits m n z wider fits is_m is_n is =
    let less : 2 ^ v ≤ 2 ^ w = pow_mono wider in
    let small : (2 ^ v - 1 - bits) % 2 ^ w ≡ 2 ^ v - 1 - bits = mod-eq_of_lt (omega arith) in
    let e : n - (m - bits) ≡ 2 ^ w - 1 - (2 ^ v - 1 - bits) % 2 ^ w = omega (arith, small) in
    e ∙ sym (ap (λ y. reduced y w) is)

pub moved_down : (w a by not_a low : ℕ) (z : ℤ) → a < 2 ^ w → not_a ≡ word_not w a → low ≡ not_a / 2 ^ by → z ≡ negsuc (2 ^ w - 1 - a) → word_not w low ≡ reduced (int_div_euclid z (pos (2 ^ by))) w
moved_down w a by not_a low z fits is_not is_low is =
    let small : a % 2 ^ w ≡ a = mod-eq_of_lt fits in
    let e : not_a ≡ 2 ^ w - 1 - a = is_not ∙ ap (λ k. 2 ^ w - 1 - k) small in
    ap (word_not w) (is_low ∙ ap (λ k. k / 2 ^ by) e) ∙ sym (ap (λ y. reduced (int_div_euclid y (pos (2 ^ by))) w) is)
