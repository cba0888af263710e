-- Facts about the first byte of a text.
use Rattle.std.proofs.Common.{◌≡◌, ℕ, zero, suc, ◌<◌, Bool, true, false, eqb, List, [], ◌∷◌, ◌++◌, length, take, refl, sym, ap, ◌∙◌, arith, inl, inr}
use Rattle.std.specs.Prelude.{◌==◌, ◌&&◌, ◌||◌}
use Rattle.std.specs.List.{prefix_len}
use Rattle.std.proofs.lemmas.Bool.{both_ways, cases_Bool, eqb-true}
use Rattle.std.proofs.lemmas.Bool.Decides.{nat_tests}
use Rattle.lisa_words.specs.Bytes.{is_blank, is_digit, is_letter, front_is}
use Rattle.lisa_words.specs.Gaps.{starts_comment}
use Rattle.lisa_lexer.specs.Lexing.{is_quote}

-- no byte is of two of these kinds
pub not_letter_digit : (b : ℕ) → is_letter b ≡ true → is_digit b ≡ true → ⊥
not_letter_digit b l d = grind (arith, nat_tests)

pub not_letter_quote : (b : ℕ) → is_letter b ≡ true → is_quote b ≡ true → ⊥
not_letter_quote b l d = grind (arith, nat_tests)

pub not_digit_quote : (b : ℕ) → is_digit b ≡ true → is_quote b ≡ true → ⊥
not_digit_quote b l d = grind (arith, nat_tests)

pub not_letter_blank : (b : ℕ) → is_letter b ≡ true → is_blank b ≡ true → ⊥
not_letter_blank b l d = grind (arith, nat_tests)

pub not_digit_blank : (b : ℕ) → is_digit b ≡ true → is_blank b ≡ true → ⊥
not_digit_blank b l d = grind (arith, nat_tests)

-- and so no front is
pub front_apart : (p q : ℕ → Bool) → ((b : ℕ) → p b ≡ true → q b ≡ true → ⊥) → (xs : List ℕ) → front_is p xs ≡ true → front_is q xs ≡ true → ⊥
front_apart p q h [] e f = absurd cc
front_apart p q h (b ∷ xs) e f = h b e f

pub front_weaker : (p q : ℕ → Bool) → ((b : ℕ) → p b ≡ true → q b ≡ true) → (xs : List ℕ) → front_is p xs ≡ true → front_is q xs ≡ true
front_weaker p q h [] e = absurd cc
front_weaker p q h (b ∷ xs) e = h b e

pub front_false : (p : ℕ → Bool) (xs : List ℕ) → (front_is p xs ≡ true → ⊥) → front_is p xs ≡ false
front_false p xs h = elim (cases_Bool (front_is p xs)) [ inl e ↦ absurd (h e) | inr e ↦ e ]

-- the front of a text is that of the bytes that it begins
pub front_more : (p : ℕ → Bool) (bytes more after : List ℕ) → bytes ≡ more ++ after → 0 < length more → front_is p more ≡ front_is p bytes
front_more p bytes [] after e lt = absurd (omega arith)
front_more p bytes (b ∷ more) after e lt = ap (front_is p) (sym e)

pub front_take : (p : ℕ → Bool) (n : ℕ) (xs : List ℕ) → 0 < n → front_is p (take n xs) ≡ front_is p xs
front_take p zero xs lt = absurd (omega arith)
front_take p (suc n) [] lt = refl
front_take p (suc n) (b ∷ xs) lt = refl

-- a run has something where its first byte passes
pub front_run : (p : ℕ → Bool) (xs : List ℕ) → front_is p xs ≡ true → 0 < prefix_len p xs
front_run p [] e = absurd cc
front_run p (b ∷ xs) e = rw e (omega arith)

pub no_stroke : (b c d : ℕ) → eqb b 47 ≡ false → (b == 47 && c == 47 || b == 47 && d == 42) ≡ false
no_stroke b c d e = rw e refl

-- what begins otherwise begins no comment
pub front_no_comment : (p : ℕ → Bool) → p 47 ≡ false → (xs : List ℕ) → front_is p xs ≡ true → starts_comment xs ≡ false
front_no_comment p other [] e = refl
front_no_comment p other (b ∷ []) e = refl
front_no_comment p other (b ∷ c ∷ xs) e = elim (cases_Bool (eqb b 47)) [
  | inl is ↦ absurd (both_ways (p 47) other (ap p (sym (eqb-true b 47 is)) ∙ e))
  | inr e' ↦ no_stroke b c c e'
]
