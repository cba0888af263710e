-- Runs of digits are numerals.
use Rattle.std.proofs.Common.{◌≡◌, ℕ, ◌^◌, ◌<◌, Bool, true, false, ltb, List, [], ◌∷◌, take, Err, refl, inl, inr, arith}
use Rattle.std.specs.Char.{digit_value}
use Rattle.std.specs.Str.Parse.{AllDigits, IsNumeral, digits_value}
use Rattle.std.specs.List.{list_all, prefix_len}
use Rattle.std.proofs.lemmas.Bool.{and_parts, le-ltb, cases_lt}
use Rattle.std.proofs.lemmas.Bool.Decides.{nat_tests}
use Rattle.std.proofs.lemmas.List.Folds.{length-prefix_len}
use Rattle.lisa_words.specs.Numerals.{IsNumeralBelow}
use Rattle.lisa_tree.specs.declared.faults.DescFault.TheVariants as faults
use Rattle.lisa_words.specs.Bytes.{is_digit, is_hexadecimal}
use Rattle.lisa_words.proofs.Runs.{taken_pass}
use Rattle.lisa_lexer.specs.Lexing.{decimal_at, hexadecimal_at}

decimal_digit : (b : ℕ) → is_digit b ≡ true → digit_value b < 10
decimal_digit b d = grind (arith, nat_tests)

hexadecimal_digit : (b : ℕ) → is_hexadecimal b ≡ true → digit_value b < 16
hexadecimal_digit b d = grind (arith, nat_tests)

all_digits : (p : ℕ → Bool) (radix : ℕ) → ((b : ℕ) → p b ≡ true → digit_value b < radix) → (xs : List ℕ) → list_all p xs ≡ true → AllDigits radix xs
all_digits p radix h [] all = tt
all_digits p radix h (x ∷ xs) all = let both = and_parts (p x) (list_all p xs) all in (h x both.0, all_digits p radix h xs both.1)

run_numeral : (p : ℕ → Bool) (radix : ℕ) → ((b : ℕ) → p b ≡ true → digit_value b < radix) → (xs : List ℕ) → 0 < prefix_len p xs → IsNumeral radix (take (prefix_len p xs) xs)
run_numeral p radix h xs some = (omega (arith, length-prefix_len p xs), all_digits p radix h (take (prefix_len p xs) xs) (taken_pass p xs))

too_wide : (p : ℕ → Bool) (radix : ℕ) → ((b : ℕ) → p b ≡ true → digit_value b < radix) → (xs : List ℕ) → 0 < prefix_len p xs → (IsNumeralBelow radix (2 ^ 64) (take (prefix_len p xs) xs) → ⊥)
    → ltb (digits_value radix (take (prefix_len p xs) xs)) (2 ^ 64) ≡ false
too_wide p radix h xs some none = elim (cases_lt (digits_value radix (take (prefix_len p xs) xs)) (2 ^ 64)) [
  | inl lt ↦ absurd (none (run_numeral p radix h xs some, lt))
  | inr le ↦ le-ltb _ _ le
]

pub decimal_wide : (at : ℕ) (bytes : List ℕ) → 0 < prefix_len is_digit bytes → (IsNumeralBelow 10 (2 ^ 64) (take (prefix_len is_digit bytes) bytes) → ⊥) → decimal_at at bytes ≡ Err (faults.NumberTooWide at)
unfolding decimal_at
decimal_wide at bytes some none = rw (too_wide is_digit 10 decimal_digit bytes some none) refl

pub hexadecimal_wide : (at : ℕ) (body : List ℕ) → 0 < prefix_len is_hexadecimal body → (IsNumeralBelow 16 (2 ^ 64) (take (prefix_len is_hexadecimal body) body) → ⊥) → hexadecimal_at at body ≡ Err (faults.NumberTooWide at)
unfolding hexadecimal_at
hexadecimal_wide at body some none = rw (too_wide is_hexadecimal 16 hexadecimal_digit body some none) refl
