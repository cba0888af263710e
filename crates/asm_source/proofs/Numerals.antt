-- Texts that write numbers, as a test.
use Rattle.std.proofs.Common.{◌≡◌, ℕ, ◌^◌, ◌<◌, Bool, true, false, cond, List, [], ◌∷◌, length, Option, Some, None, refl, ap, arith}
use Rattle.std.specs.Prelude.{SomeIff, ◌&&◌, nat_lt}
use Rattle.std.specs.List.{list_all}
use Rattle.std.specs.Char.{digit_value}
use Rattle.std.specs.Str.Parse.{AllDigits, digits_value}
use Rattle.std.proofs.lemmas.Bool.{and_parts, and_from, lt-ltb}
use Rattle.std.proofs.lemmas.Bool.Decides.{nat_tests}
use Rattle.lisa_words.specs.Numerals.{IsNumeralBelow}
use Rattle.asm_source.specs.Numbers.{is_numeral, numeral_of}

abbrev is_one : ℕ → ℕ → Bool
is_one radix b = nat_lt (digit_value b) radix

below : (m n : ℕ) → nat_lt m n ≡ true → m < n
below m n e = grind (arith, nat_tests)

digits_pass : (radix : ℕ) (ds : List ℕ) → AllDigits radix ds → list_all (is_one radix) ds ≡ true
digits_pass radix [] h = refl
digits_pass radix (d ∷ ds) h = and_from _ _ (lt-ltb _ _ h.0) (digits_pass radix ds h.1)

passing_digits : (radix : ℕ) (ds : List ℕ) → list_all (is_one radix) ds ≡ true → AllDigits radix ds
passing_digits radix [] e = tt
passing_digits radix (d ∷ ds) e =
    let p = and_parts (is_one radix d) (list_all (is_one radix) ds) e in
    (below (digit_value d) radix p.0, passing_digits radix ds p.1)

numeral_passes : (radix : ℕ) (ds : List ℕ) → IsNumeralBelow radix (2 ^ 64) ds → is_numeral radix ds ≡ true
numeral_passes radix ds h = and_from _ _ (and_from _ _ (lt-ltb _ _ h.0.0) (digits_pass radix ds h.0.1)) (lt-ltb _ _ h.1)

passing_numeral : (radix : ℕ) (ds : List ℕ) → is_numeral radix ds ≡ true → IsNumeralBelow radix (2 ^ 64) ds
passing_numeral radix ds e =
    let p = and_parts (nat_lt 0 (length ds) && list_all (is_one radix) ds) (nat_lt (digits_value radix ds) (2 ^ 64)) e in
    let q = and_parts (nat_lt 0 (length ds)) (list_all (is_one radix) ds) p.0 in
    ((below 0 (length ds) q.0, passing_digits radix ds q.1), below (digits_value radix ds) (2 ^ 64) p.1)

-- a number exactly where digits write one is what the test gives
pub numeral_is : (radix : ℕ) (ds : List ℕ) (r : Option ℕ) → SomeIff r (IsNumeralBelow radix (2 ^ 64) ds) (digits_value radix ds) → r ≡ numeral_of radix ds
numeral_is radix ds (Some x) h = rw (numeral_passes radix ds h.0) (ap (λ (n : ℕ). Some n) h.1)
numeral_is radix ds None h = go (is_numeral radix ds) refl
  where
    go : (b : Bool) → is_numeral radix ds ≡ b → ◌≡◌ {A = Option ℕ} None (cond (is_numeral radix ds) (Some (digits_value radix ds)) None)
    go true e = absurd (h (passing_numeral radix ds e))
    go false e = rw e refl
