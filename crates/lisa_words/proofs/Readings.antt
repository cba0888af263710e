-- Digits are read one at a time from the front, and the number fits or does not.
use Rattle.std.proofs.Common.{◌≡◌, ℕ, suc, ◌+◌, ◌*◌, ◌^◌, ◌<◌, ◌≤◌, false, nat_eq, List, [], ◌∷◌, length, drop, get_or, refl, sym, ap, ◌∙◌, subst, arith}
use Rattle.std.proofs.Math.Nat.{le-mul_of_pos_right}
use Rattle.std.proofs.Math.ListN.{drop_of_length-le}
use Rattle.std.proofs.Math.Seq.{drop-cons}
use Rattle.std.proofs.lemmas.Bool.{false≢true}
use Rattle.std.proofs.lemmas.Bool.Decides.{Decides-eqb}
use Rattle.std.proofs.lemmas.Fmt.{decimal_is_IsNumeral, digits_is_IsNumeral}
use Rattle.std.proofs.lemmas.Slice.Eq.{slice_eq-Decides}
use Rattle.std.specs.Char.{digit_value}
use Rattle.std.specs.Str.Parse.{AllDigits, digits_value_after, digits_value}
use Rattle.std.specs.Cmp.Lexicographic.{pointwise}
use Rattle.std.specs.Fmt.{decimal, digits}
use Rattle.lisa_words.specs.Numerals.{IsNumeralBelow}

-- of the digits of a text, those before the rest write n
pub record SoFar (radix : ℕ) (text rest : List ℕ) (n : ℕ) : Type 0 where
  pub same : digits_value_after radix n rest ≡ digits_value radix text
  pub back : AllDigits radix rest → AllDigits radix text
  pub on : AllDigits radix text → AllDigits radix rest

pub begun : (radix : ℕ) (text : List ℕ) → SoFar radix text text 0
begun radix text = record { same = refl; back = λ h. h; on = λ h. h }

grows : (radix n : ℕ) (ds : List ℕ) → 0 < radix → n ≤ digits_value_after radix n ds
grows radix n [] h = omega arith
grows radix n (c ∷ cs) h = omega (arith, grows radix (n * radix + digit_value c) cs h, le-mul_of_pos_right n h)

module _ (radix : ℕ) (text : List ℕ) (at n : ℕ) (s : SoFar radix text (drop at text) n) where
  module _ (h : at < length text) where
    opened : SoFar radix text (get_or text at 0 ∷ drop (at + 1) text) n
    opened = let e : suc at ≡ at + 1 = omega arith in subst (λ l. SoFar radix text l n) (drop-cons text at 0 h ∙ ap (λ k. get_or text at 0 ∷ drop k text) e) s

    pub one_more : (m : ℕ) → digit_value (get_or text at 0) < radix → m ≡ n * radix + digit_value (get_or text at 0) → SoFar radix text (drop (at + 1) text) m
    one_more m d e = record { same = ap (λ k. digits_value_after radix k (drop (at + 1) text)) e ∙ opened.same; back = λ r. opened.back (d, r); on = λ r. (opened.on r).1 }

    pub stopped : (bound : ℕ) → 0 < radix → ((digit_value (get_or text at 0) < radix) × (n * radix + digit_value (get_or text at 0) < bound) → ⊥) → IsNumeralBelow radix bound text → ⊥
    stopped bound z d p = d ((opened.on p.0.1).0, omega (arith, opened.same, p.1, grows radix (n * radix + digit_value (get_or text at 0)) (drop (at + 1) text) z))

  pub all_read : (bound : ℕ) → length text ≤ at → 0 < length text → n < bound → IsNumeralBelow radix bound text × (n ≡ digits_value radix text)
  all_read bound h some fits =
      let t : SoFar radix text [] n = subst (λ l. SoFar radix text l n) (drop_of_length-le text h) s in
      (((some, t.back tt), omega (arith, t.same)), t.same)

-- the text of a number is a numeral with that value
pub written_decimal : (n : ℕ) (text : List ℕ) → n < 2 ^ 64 → text ≡ decimal n → IsNumeralBelow 10 (2 ^ 64) text × (digits_value 10 text ≡ n)
written_decimal n text small is =
    let p = decimal_is_IsNumeral n small in
    subst (λ t. IsNumeralBelow 10 (2 ^ 64) t × (digits_value 10 t ≡ n)) (sym is) ((p.0, omega (arith, p.1)), p.1)

pub written_hex : (n : ℕ) (text : List ℕ) → n < 2 ^ 64 → text ≡ digits 16 false n → IsNumeralBelow 16 (2 ^ 64) text × (digits_value 16 text ≡ n)
written_hex n text small is =
    let p = digits_is_IsNumeral 16 false (omega arith) (omega arith) n (omega arith) in
    subst (λ t. IsNumeralBelow 16 (2 ^ 64) t × (digits_value 16 t ≡ n)) (sym is) ((p.0, omega (arith, p.1)), p.1)

-- a text that is another, though a test says that it isn't
pub unlike : (xs ys : List ℕ) → false ≡ pointwise nat_eq xs ys → xs ≡ ys → ⊥
unlike xs ys h e = false≢true ((slice_eq-Decides Decides-eqb xs ys false h).1 e)

pub hex_injective : (m n : ℕ) → m < 2 ^ 64 → n < 2 ^ 64 → digits 16 false m ≡ digits 16 false n → m ≡ n
hex_injective m n small_m small_n same = sym (written_hex m (digits 16 false m) small_m refl).1 ∙ (written_hex n (digits 16 false m) small_n same).1
