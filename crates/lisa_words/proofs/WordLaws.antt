-- What the definitions of words give to those who use them.
use Rattle.std.proofs.Common.{◌≡◌, ℕ, zero, suc, ◌+◌, ◌-◌, ◌*◌, ◌/◌, ◌%◌, ◌^◌, ◌<◌, ◌≤◌, true, false, refl, sym, ap, ◌∙◌, subst, ⊎_elim, inl, inr, ◌⊎◌, arith}
use Rattle.std.proofs.lemmas.Bool.{cases_lt}
use Rattle.std.proofs.lemmas.Bool.Decides.{nat_tests}
use Rattle.std.proofs.lemmas.Nat.{mod_below, mod_low, pow_pos, pow-add, shr_below, shr_split}
use Rattle.std.proofs.Math.Nat.{mod-eq_of_lt}
use Rattle.std.proofs.Math.Pow.{mod-mod-pow, pow_mono}
use Rattle.std.specs.Int.{int_div_euclid, int_rem_euclid}
use Rattle.std.specs.Prelude.{ℤ, pos, negsuc, ◌-ℤ◌, nat_lt, if◌then◌else◌}
use Rattle.lisa_words.specs.Words.{reduced, meant, word_cut, word_widen, word_not, word_shl, word_shr}
use Rattle.lisa_words.specs.declared.words.Kind.{Kind}
use Rattle.lisa_words.specs.declared.words.Kind.TheVariants.{Unsigned, Signed}
use Rattle.lisa_words.proofs.Reduced.{minus_down, none_above, none_below}

-- `reduced` is the remainder, from 0 on
pub reduced_is_rem : (z : ℤ) (w : ℕ) → pos (reduced z w) ≡ int_rem_euclid z (pos (2 ^ w))
reduced_is_rem (pos n) w = refl
reduced_is_rem (negsuc n) w = refl

pub reduced-lt : (z : ℤ) (w : ℕ) → reduced z w < 2 ^ w
reduced-lt (pos n) w = mod_below n (2 ^ w) (pow_pos w)
reduced-lt (negsuc n) w = omega (arith, pow_pos w)

pub reduced_small : (n w : ℕ) → n < 2 ^ w → reduced (pos n) w ≡ n
reduced_small n w fits = mod-eq_of_lt fits

-- a result that is reduced twice, first to a width that is no smaller
reduced_far : (n w v p c q r : ℕ) → n % 2 ^ v ≡ q * p + r → r < p → p ≡ 2 ^ w → c * p ≡ 2 ^ v → n % 2 ^ v < 2 ^ v → q < c → (2 ^ v - 1 - n % 2 ^ v) % 2 ^ w ≡ 2 ^ w - 1 - r
reduced_far n w v p c q r is small is_p whole below less =
    let h : ℕ = c - 1 - q in
    let e : h + (q + 1) ≡ c = omega arith in
    let f : (h + (q + 1)) * p ≡ c * p = ap (λ k. k * p) e in
    let g : 2 ^ v - 1 - n % 2 ^ v ≡ h * p + (p - 1 - r) = omega (arith, f) in
    ap (λ k. k % 2 ^ w) (g ∙ ap (λ k. h * k + (p - 1 - r)) is_p) ∙ mod_low h w (p - 1 - r) (omega arith) ∙ ap (λ k. k - 1 - r) is_p

pub reduced_twice : (z : ℤ) (v w : ℕ) → w ≤ v → reduced (pos (reduced z v)) w ≡ reduced z w
reduced_twice (pos n) v w le = rw_width (v - w) w v n (omega arith)
  where
    rw_width : (j w v n : ℕ) → j + w ≡ v → n % 2 ^ v % 2 ^ w ≡ n % 2 ^ w
    rw_width j w v n e = ap (λ k. n % 2 ^ k % 2 ^ w) (sym e) ∙ mod-mod-pow n j w
reduced_twice (negsuc n) v w le =
    let e : v - w + w ≡ v = omega arith in
    let whole : 2 ^ (v - w) * 2 ^ w ≡ 2 ^ v = sym (pow-add 2 (v - w) w) ∙ ap (λ k. 2 ^ k) e in
    let m : ℕ = n % 2 ^ v in
    let below : m < 2 ^ v = mod_below n (2 ^ v) (pow_pos v) in
    let r_is : m % 2 ^ w ≡ n % 2 ^ w = ap (λ k. n % 2 ^ k % 2 ^ w) (sym e) ∙ mod-mod-pow n (v - w) w in
    let parts : m ≡ m / 2 ^ w * 2 ^ w + m % 2 ^ w = sym (shr_split m w) in
    let less : m / 2 ^ w < 2 ^ (v - w) = shr_below m (v - w) w (subst (λ k. m < 2 ^ k) (sym e) below) in
    reduced_far n w v (2 ^ w) (2 ^ (v - w)) (m / 2 ^ w) (m % 2 ^ w) parts (mod_below m (2 ^ w) (pow_pos w)) refl whole below less ∙ ap (λ k. 2 ^ w - 1 - k) r_is

-- what a word means: the number that it is, or one below 0
pub meant_cases : (kind : Kind) (w a : ℕ) → a < 2 ^ w → (meant kind w a ≡ pos a) ⊎ (meant kind w a ≡ negsuc (2 ^ w - 1 - a))
meant_cases Unsigned w a fits = inl refl
meant_cases Signed w a fits = elim (nat_lt a (2 ^ (w - 1))) as (λ t. ((if t then pos a else pos a -ℤ pos (2 ^ w)) ≡ pos a) ⊎ ((if t then pos a else pos a -ℤ pos (2 ^ w)) ≡ negsuc (2 ^ w - 1 - a)))
    [ true ↦ inl refl | false ↦ inr (minus_down a (2 ^ w) fits ∙ ap negsuc (omega arith)) ]

pub reduced-meant : (kind : Kind) (w a : ℕ) → a < 2 ^ w → reduced (meant kind w a) w ≡ a
reduced-meant kind w a fits = ⊎_elim
    (λ e. ap (λ z. reduced z w) e ∙ mod-eq_of_lt fits)
    (λ e. let small : (2 ^ w - 1 - a) % 2 ^ w ≡ 2 ^ w - 1 - a = mod-eq_of_lt (omega arith) in ap (λ z. reduced z w) e ∙ omega (arith, small))
    (meant_cases kind w a fits)

-- a word that is widened and cut again, or widened to its own width
pub cut-widen : (kind : Kind) (w a v : ℕ) → a < 2 ^ w → w ≤ v → word_cut w (word_widen kind w a v) ≡ a
cut-widen kind w a v fits le = reduced_twice (meant kind w a) v w le ∙ reduced-meant kind w a fits

pub widen_same : (kind : Kind) (w a : ℕ) → a < 2 ^ w → word_widen kind w a w ≡ a
widen_same kind w a fits = reduced-meant kind w a fits

pub widen_unsigned : (w a v : ℕ) → a < 2 ^ w → w ≤ v → word_widen Unsigned w a v ≡ a
widen_unsigned w a v fits le = let more : 2 ^ w ≤ 2 ^ v = pow_mono le in mod-eq_of_lt (omega arith)

-- the two halves of the signed words
pub low_half : (w a : ℕ) → a < 2 ^ (w - 1) → meant Signed w a ≡ pos a
low_half w a low =
    let t : nat_lt a (2 ^ (w - 1)) ≡ true = grind (arith, nat_tests) in
    rw t refl

pub high_half : (w a : ℕ) → 2 ^ (w - 1) ≤ a → a < 2 ^ w → meant Signed w a ≡ negsuc (2 ^ w - 1 - a)
high_half w a high fits =
    let t : nat_lt a (2 ^ (w - 1)) ≡ false = grind (arith, nat_tests) in
    rw t (minus_down a (2 ^ w) fits ∙ ap negsuc (omega arith))

halved : (w : ℕ) → 1 ≤ w → 2 ^ w ≡ 2 ^ (w - 1) * 2
halved zero low = absurd (omega arith)
halved (suc u) low =
    let e : 2 ^ (suc u - 1) ≡ 2 ^ u = ap (λ k. 2 ^ k) {x = suc u - 1} {y = u} (omega arith) in
    omega (arith, e)

-- a word means the same number once it is widened
pub meant-widen : (kind : Kind) (w a v : ℕ) → 1 ≤ w → a < 2 ^ w → w ≤ v → meant kind v (word_widen kind w a v) ≡ meant kind w a
meant-widen Unsigned w a v low fits le = ap pos (widen_unsigned w a v fits le)
meant-widen Signed w a v low fits le =
    let more : 2 ^ w ≤ 2 ^ v = pow_mono le in
    let half : 2 ^ (w - 1) ≤ 2 ^ (v - 1) = pow_mono (omega arith) in
    ⊎_elim
    (λ l. let e : reduced (meant Signed w a) v ≡ a = ap (λ z. reduced z v) (low_half w a l) ∙ mod-eq_of_lt (omega arith) in
    ap (meant Signed v) e ∙ low_half v a (omega arith) ∙ sym (low_half w a l))
    (λ l. let small : (2 ^ w - 1 - a) % 2 ^ v ≡ 2 ^ w - 1 - a = mod-eq_of_lt (omega arith) in
    let e : reduced (meant Signed w a) v ≡ 2 ^ v - 1 - (2 ^ w - 1 - a) = ap (λ z. reduced z v) (high_half w a l fits) ∙ ap (λ k. 2 ^ v - 1 - k) small in
    ap (meant Signed v) e
    ∙ high_half v (2 ^ v - 1 - (2 ^ w - 1 - a)) (omega (arith, halved w low, halved v (omega arith))) (omega (arith, pow_pos v))
    ∙ ap negsuc {y = 2 ^ w - 1 - a} (omega arith) ∙ sym (high_half w a l fits))
    (cases_lt a (2 ^ (w - 1)))

-- each bit turned round
pub not_is : (w a : ℕ) → a < 2 ^ w → word_not w a ≡ 2 ^ w - 1 - a
not_is w a fits = ap (λ k. 2 ^ w - 1 - k) (mod-eq_of_lt fits)

pub not-not : (w a : ℕ) → a < 2 ^ w → word_not w (word_not w a) ≡ a
not-not w a fits = not_is w (word_not w a) (reduced-lt (negsuc a) w) ∙ ap (λ k. 2 ^ w - 1 - k) (not_is w a fits) ∙ omega arith

-- an amount of the width or more leaves the fill alone
pub shl_far : (w a by : ℕ) → w ≤ by → word_shl w a by ≡ 0
shl_far w a by far = none_above w a by far

pub shr_far : (kind : Kind) (w a by : ℕ) → a < 2 ^ w → w ≤ by → (word_shr kind w a by ≡ 0) ⊎ (word_shr kind w a by ≡ 2 ^ w - 1)
shr_far kind w a by fits far = ⊎_elim
    (λ e. inl (ap (λ z. reduced (int_div_euclid z (pos (2 ^ by))) w) e ∙ ap (λ k. k % 2 ^ w) (none_below w a by far fits) ∙ mod-eq_of_lt (pow_pos w)))
    (λ e. inr (ap (λ z. reduced (int_div_euclid z (pos (2 ^ by))) w) e ∙ ap (λ k. 2 ^ w - 1 - k % 2 ^ w) (none_below w (2 ^ w - 1 - a) by far (omega arith)) ∙ ap (λ k. 2 ^ w - 1 - k) (mod-eq_of_lt (pow_pos w)) ∙ omega arith))
    (meant_cases kind w a fits)
