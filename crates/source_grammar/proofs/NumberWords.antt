-- Words that are numbers: the test and the spelling.
use Rattle.std.proofs.Common.{◌≡◌, ℕ, ◌^◌, ◌<◌, ⊎_elim, Bool, true, false, List, [], ◌∷◌, ◌++◌, length, drop, Option, Some, None, refl, sym, ap, ◌∙◌, arith, subst}
use Rattle.std.specs.Prelude.{◌&&◌, ◌==◌, nat_lt, codes}
use Rattle.std.specs.List.{list_all}
use Rattle.std.specs.Char.{digit_value}
use Rattle.std.specs.Str.Parse.{AllDigits, digits_value}
use Rattle.std.proofs.lemmas.Bool.{and_parts, and_from, and_right, eqb-true}
use Rattle.std.proofs.lemmas.Bool.Decides.{nat_tests}
use Rattle.lisa_words.specs.Numerals.{IsNumeralBelow}
use Rattle.asm_source.specs.Bytes.{is_digit, is_word, front_is}
use Rattle.asm_source.specs.Numbers.{is_numeral, numeral_of, starts_hex, number_of}
use Rattle.asm_source.proofs.Numerals.{numeral_is}
use Rattle.source_grammar.specs.Grammar.{SpellsNumber, decimal, hexadecimal}
use Rattle.source_grammar.proofs.Runs.{by_test}

abbrev is_one : ℕ → ℕ → Bool
is_one radix b = nat_lt (digit_value b) radix

below : (m n : ℕ) → nat_lt m n ≡ true → m < n
below m n e = grind (arith, nat_tests)

passing_digits : (radix : ℕ) (ds : List ℕ) → list_all (is_one radix) ds ≡ true → AllDigits radix ds
passing_digits radix [] e = tt
passing_digits radix (d ∷ ds) e =
    let p = and_parts (is_one radix d) (list_all (is_one radix) ds) e in
    (below (digit_value d) radix p.0, passing_digits radix ds p.1)

passing_numeral : (radix : ℕ) (ds : List ℕ) → is_numeral radix ds ≡ true → IsNumeralBelow radix (2 ^ 64) ds
passing_numeral radix ds e =
    let p = and_parts (nat_lt 0 (length ds) && list_all (is_one radix) ds) (nat_lt (digits_value radix ds) (2 ^ 64)) e in
    let q = and_parts (nat_lt 0 (length ds)) (list_all (is_one radix) ds) p.0 in
    ((below 0 (length ds) q.0, passing_digits radix ds q.1), below (digits_value radix ds) (2 ^ 64) p.1)

numeral_found : (radix : ℕ) (ds : List ℕ) (n : ℕ) → numeral_of radix ds ≡ Some n → IsNumeralBelow radix (2 ^ 64) ds × (n ≡ digits_value radix ds)
numeral_found radix ds n e =
    ⊎_elim
    (λ yes. (passing_numeral radix ds yes.0, let same : Some (digits_value radix ds) ≡ Some n = yes.1 in cc))
    (λ no. absurd (let none : ◌≡◌ {A = Option ℕ} None (Some n) = no.1 in cc))
    (by_test (is_numeral radix ds) (Some (digits_value radix ds)) None (Some n) e)

hex_front : (word : List ℕ) → starts_hex word ≡ true → word ≡ codes "0x" ++ drop 2 word
hex_front [] e = absurd (cc e)
hex_front (a ∷ []) e = absurd (cc e)
hex_front (a ∷ b ∷ ds) e =
    let p = and_parts (a == 48) (b == 120) e in
    let x : a ≡ 48 = eqb-true a 48 p.0 in
    let y : b ≡ 120 = eqb-true b 120 p.1 in
    rw (x, y) refl

not_x : (b : ℕ) → digit_value b < 10 → (b == 120) ≡ false
not_x b h = grind (arith, nat_tests)

no_hex : (word : List ℕ) → AllDigits 10 word → starts_hex word ≡ false
no_hex [] h = refl
no_hex (a ∷ []) h = refl
no_hex (a ∷ b ∷ ds) h = and_right (a == 48) (b == 120) (not_x b h.1.0)

pub number_found : (word : List ℕ) (n : ℕ) → number_of word ≡ Some n → SpellsNumber word n
unfolding number_of
number_found word n e =
    ⊎_elim
    (λ yes. let f = numeral_found 16 (drop 2 word) n yes.1 in subst (SpellsNumber word) (sym f.1) (hexadecimal (hex_front word yes.0) f.0))
    (λ no. let f = numeral_found 10 word n no.1 in subst (SpellsNumber word) (sym f.1) (decimal f.0))
    (by_test (starts_hex word) (numeral_of 16 (drop 2 word)) (numeral_of 10 word) (Some n) e)

pub number_only : {word : List ℕ} {n : ℕ} → SpellsNumber word n → number_of word ≡ Some n
unfolding number_of
number_only (decimal {word = w} is) = rw (no_hex w is.0.1) (sym (numeral_is 10 w (Some (digits_value 10 w)) (is, refl)))
number_only (hexadecimal {digits = ds} split is) = ap number_of split ∙ sym (numeral_is 16 ds (Some (digits_value 16 ds)) (is, refl))

-- ---- a number is a word that begins with a digit

digit_word : (c : ℕ) → digit_value c < 16 → is_word c ≡ true
digit_word c h = grind (arith, nat_tests)

digit_ten : (c : ℕ) → digit_value c < 10 → is_digit c ≡ true
digit_ten c h = grind (arith, nat_tests)

digits_word : (radix : ℕ) (ds : List ℕ) → radix < 17 → AllDigits radix ds → list_all is_word ds ≡ true
digits_word radix [] lt h = refl
digits_word radix (d ∷ ds) lt h = and_from (is_word d) (list_all is_word ds) (digit_word d (omega (arith, h.0))) (digits_word radix ds lt h.1)

digits_front : (ds : List ℕ) → 0 < length ds → AllDigits 10 ds → front_is is_digit ds ≡ true
digits_front [] some h = absurd (omega arith)
digits_front (d ∷ ds) some h = digit_ten d h.0

pub number_all : {word : List ℕ} {n : ℕ} → SpellsNumber word n → list_all is_word word ≡ true
number_all (decimal {word = w} is) = digits_word 10 w (omega arith) is.0.1
number_all (hexadecimal {digits = ds} split is) = ap (list_all is_word) split ∙ digits_word 16 ds (omega arith) is.0.1

pub number_front : {word : List ℕ} {n : ℕ} → SpellsNumber word n → front_is is_digit word ≡ true
number_front (decimal {word = w} is) = digits_front w is.0.0 is.0.1
number_front (hexadecimal split is) = ap (front_is is_digit) split
