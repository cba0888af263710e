-- Operations on signed words by those on unsigned ones: a word is moved up by a half, which turns its highest bit.
use Rattle.std.proofs.Common.{◌≡◌, ℕ, zero, suc, ◌+◌, ◌-◌, ◌*◌, ◌/◌, ◌%◌, ◌^◌, ◌<◌, ◌≤◌, true, false, sym, ap, ap₂, ◌∙◌, ⊎_elim, arith}
use Rattle.std.specs.Prelude.{pos, negsuc, ◌-ℤ◌, nat_lt, int_lt}
use Rattle.std.proofs.lemmas.Bool.{cases_lt}
use Rattle.std.proofs.lemmas.Bool.Decides.{nat_tests}
use Rattle.std.proofs.lemmas.Int.{ints}
use Rattle.std.proofs.Math.Nat.{add-mul-mod_self_right, mod-eq_of_lt}
use Rattle.lisa_words.specs.declared.words.Kind.TheVariants.{Signed}
use Rattle.lisa_words.specs.Words.{reduced, meant}
use Rattle.lisa_words.proofs.WordLaws.{low_half, high_half}

pub double : (w : ℕ) → 1 ≤ w → 2 ^ w ≡ 2 ^ (w - 1) * 2
double zero h = absurd (omega arith)
double (suc w) h =
    let e : 2 ^ (suc w - 1) ≡ 2 ^ w = ap (λ (k : ℕ). 2 ^ k) {x = suc w - 1} {y = w} (omega arith) in
    omega (arith, e)

turned_low : (p m x : ℕ) → p ≡ m * 2 → x < m → (x + m) % p ≡ x + m
turned_low p m x e h = mod-eq_of_lt (omega arith)

turned_high : (p m x : ℕ) → p ≡ m * 2 → m ≤ x → x < p → (x + m) % p ≡ x - m
turned_high p m x e h k =
    let f : x + m ≡ (x - m) + 1 * p = omega arith in
    let g : (x - m) % p ≡ x - m = mod-eq_of_lt (omega arith) in
    ap (λ (y : ℕ). y % p) f ∙ add-mul-mod_self_right (x - m) 1 p ∙ g

-- widening a signed word
pub widens : (v w x : ℕ) → 1 ≤ v → x < 2 ^ v → reduced (pos ((x + 2 ^ (v - 1)) % 2 ^ v) -ℤ pos (2 ^ (v - 1))) w ≡ reduced (meant Signed v x) w
widens v w x low fits =
    let m = 2 ^ (v - 1) in
    let e = double v low in
    ⊎_elim
    (λ l. (let f : pos ((x + m) % 2 ^ v) -ℤ pos m ≡ pos x = omega (arith, ints, turned_low (2 ^ v) m x e l) in ap (λ z. reduced z w) (f ∙ sym (low_half v x l))))
    (λ l. (let f : pos ((x + m) % 2 ^ v) -ℤ pos m ≡ negsuc (2 ^ v - 1 - x) = omega (arith, ints, turned_high (2 ^ v) m x e l fits) in ap (λ z. reduced z w) (f ∙ sym (high_half v x l fits))))
    (cases_lt x m)

low_low : (a b m : ℕ) → nat_lt (a + m) (b + m) ≡ nat_lt a b
low_low a b m = grind (arith, nat_tests)

low_high : (a b m : ℕ) → b < m * 2 → nat_lt (a + m) (b - m) ≡ false
low_high a b m h = grind (arith, nat_tests)

high_low : (a b m : ℕ) → a < m * 2 → nat_lt (a - m) (b + m) ≡ true
high_low a b m h = grind (arith, nat_tests)

high_high : (a b m p : ℕ) → m ≤ a → m ≤ b → a < p → b < p → nat_lt (a - m) (b - m) ≡ nat_lt (p - 1 - b) (p - 1 - a)
high_high a b m p h k i j = grind (arith, nat_tests)

-- comparing two signed words
pub compares : (w a b : ℕ) → 1 ≤ w → a < 2 ^ w → b < 2 ^ w → nat_lt ((a + 2 ^ (w - 1)) % 2 ^ w) ((b + 2 ^ (w - 1)) % 2 ^ w) ≡ int_lt (meant Signed w a) (meant Signed w b)
compares w a b low fits_a fits_b =
    let m = 2 ^ (w - 1) in
    let e = double w low in
    ⊎_elim
    (λ la. ⊎_elim
    (λ lb. ap₂ nat_lt (turned_low (2 ^ w) m a e la) (turned_low (2 ^ w) m b e lb) ∙ low_low a b m ∙ sym (ap₂ int_lt (low_half w a la) (low_half w b lb)))
    (λ hb. ap₂ nat_lt (turned_low (2 ^ w) m a e la) (turned_high (2 ^ w) m b e hb fits_b) ∙ low_high a b m (omega arith) ∙ sym (ap₂ int_lt (low_half w a la) (high_half w b hb fits_b)))
    (cases_lt b m))
    (λ ha. ⊎_elim
    (λ lb. ap₂ nat_lt (turned_high (2 ^ w) m a e ha fits_a) (turned_low (2 ^ w) m b e lb) ∙ high_low a b m (omega arith) ∙ sym (ap₂ int_lt (high_half w a ha fits_a) (low_half w b lb)))
    (λ hb. ap₂ nat_lt (turned_high (2 ^ w) m a e ha fits_a) (turned_high (2 ^ w) m b e hb fits_b) ∙ high_high a b m (2 ^ w) ha hb fits_a fits_b ∙ sym (ap₂ int_lt (high_half w a ha fits_a) (high_half w b hb fits_b)))
    (cases_lt b m))
    (cases_lt a m)
