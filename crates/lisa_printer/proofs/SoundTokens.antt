-- Tokens that some bytes spell: their canonical texts spell them too.
use Rattle.std.proofs.Common.{◌≡◌, ℕ, zero, suc, ◌+◌, ◌*◌, ◌-◌, ◌/◌, ◌%◌, ◌^◌, ◌<◌, ◌≤◌, Bool, true, false, cond, List, [], ◌∷◌, ◌++◌, length, refl, ap, subst, ◌∙◌, arith}
use Rattle.std.specs.Prelude.{◌==◌, ◌||◌}
use Rattle.std.specs.List.{list_all, fold}
use Rattle.std.specs.Char.{digit_value}
use Rattle.std.specs.Fmt.{decimal, digits, digits_onto, digit_glyph}
use Rattle.std.specs.Str.Parse.{AllDigits, IsNumeral, digits_value_after}
use Rattle.std.proofs.lemmas.Bool.{and_from}
use Rattle.std.proofs.lemmas.Bool.Decides.{nat_tests}
use Rattle.std.proofs.lemmas.Fmt.{digits_is_IsNumeral, decimal_is_IsNumeral}
use Rattle.lisa_words.specs.Bytes.{is_digit, is_hexadecimal, front_is}
use Rattle.lisa_tree.specs.declared.tokens.Base.{Base}
use Rattle.lisa_tree.specs.declared.tokens.Base.TheVariants as bases
use Rattle.lisa_tree.specs.declared.tokens.Keyword.{Keyword}
use Rattle.lisa_tree.specs.declared.tokens.Sign.{Sign}
use Rattle.lisa_tree.specs.declared.tokens.TokenPart.{TokenPart}
use Rattle.lisa_tree.specs.declared.tokens.TokenPart.TheVariants as parts
use Rattle.lisa_tree.specs.Grammar.{Toks, mark, is_binary, binary_value}
use Rattle.lisa_tree.specs.DescriptionGrammar.{word}
use Rattle.lisa_tree.specs.Spellings.{token_text, sign_text, keyword_text}
use Rattle.lisa_tree.specs.Tokens.{IsToken, Fits, is_pattern_digit, named, reserved, type_word, hexadecimal, pattern, string, sign}
use Rattle.lisa_tree.specs.Tokens as tokens

-- some text is this token, and it fits
pub record IsSound (t : TokenPart) : Type 0 where
  pub text : List ℕ
  pub is : IsToken text t
  pub fits : Fits t

abbrev pub AreSound : Toks → Type 0
AreSound [] = Unit {0}
AreSound (t ∷ ts) = IsSound t × AreSound ts

pub AreSound-append : (xs ys : Toks) → AreSound xs → AreSound ys → AreSound (xs ++ ys)
AreSound-append [] ys h k = k
AreSound-append (x ∷ xs) ys h k = (h.0, AreSound-append xs ys h.1 k)

pub sound_front : (xs ys : Toks) → AreSound (xs ++ ys) → AreSound xs
sound_front [] ys h = tt
sound_front (x ∷ xs) ys h = (h.0, sound_front xs ys h.1)

pub sound_back : (xs ys : Toks) → AreSound (xs ++ ys) → AreSound ys
sound_back [] ys h = h
sound_back (x ∷ xs) ys h = sound_back xs ys h.1

pub sound_sign : (s : Sign) → IsSound (mark s)
sound_sign s = record { text = sign_text s; is = sign s; fits = tt }

pub sound_word : (k : Keyword) → IsSound (word k)
sound_word k = record { text = keyword_text k; is = reserved k; fits = tt }

-- ---- the digits of numbers

decimal_digit : (c : ℕ) → digit_value c < 10 → is_digit c ≡ true
decimal_digit c h = grind (arith, nat_tests)

hexadecimal_digit : (c : ℕ) → digit_value c < 16 → is_hexadecimal c ≡ true
hexadecimal_digit c h = grind (arith, nat_tests)

pattern_digit : (c : ℕ) → digit_value c < 2 → is_pattern_digit c ≡ true
pattern_digit c h = grind (arith, nat_tests)

binary_digit : (c : ℕ) → digit_value c < 2 → (c == 48 || c == 49) ≡ true
binary_digit c h = grind (arith, nat_tests)

binary_digit_value : (c : ℕ) → digit_value c < 2 → digit_value c ≡ c - 48
binary_digit_value c h = grind (arith, nat_tests)

module _ (p : ℕ → Bool) (radix : ℕ) (each : (c : ℕ) → digit_value c < radix → p c ≡ true) where
  digits_pass : (ds : List ℕ) → AllDigits radix ds → list_all p ds ≡ true
  digits_pass [] h = refl
  digits_pass (c ∷ cs) h = and_from (p c) (list_all p cs) (each c h.0) (digits_pass cs h.1)

  digits_begin : (ds : List ℕ) → IsNumeral radix ds → front_is p ds ≡ true
  digits_begin [] h = absurd (omega (arith, h.0))
  digits_begin (c ∷ cs) h = each c h.1.0

binary_sum : (n : ℕ) (ds : List ℕ) → AllDigits 2 ds → fold (λ (n d : ℕ). 2 * n + (d - 48)) n ds ≡ digits_value_after 2 n ds
binary_sum n [] h = refl
binary_sum n (c ∷ cs) h =
    let e : 2 * n + (c - 48) ≡ n * 2 + digit_value c = omega (arith, binary_digit_value c h.0) in
    ap (λ (m : ℕ). fold (λ (n d : ℕ). 2 * n + (d - 48)) m cs) e ∙ binary_sum (n * 2 + digit_value c) cs h.1

few_digits : (k base n : ℕ) (acc : List ℕ) → length (digits_onto k base false n acc) ≤ k + length acc
few_digits zero base n acc = omega arith
few_digits (suc k) base n acc = go (n / base == 0) (few_digits k base (n / base) (digit_glyph false (n % base) ∷ acc))
  where
    go : (b : Bool) → length (digits_onto k base false (n / base) (digit_glyph false (n % base) ∷ acc)) ≤ k + suc (length acc)
        → length (cond b (digit_glyph false (n % base) ∷ acc) (digits_onto k base false (n / base) (digit_glyph false (n % base) ∷ acc))) ≤ suc k + length acc
    go true le = omega arith
    go false le = omega arith

pub length-binary : (n : ℕ) → length (digits 2 false n) ≤ 64
unfolding digits
length-binary n = few_digits 64 2 n []

pub decimal_token : (n : ℕ) → n < 2 ^ 64 → IsToken (decimal n) (parts.Number n bases.Decimal)
decimal_token n lt =
    let h = decimal_is_IsNumeral n lt in
    subst (λ (m : ℕ). IsToken (decimal n) (parts.Number m bases.Decimal)) h.1
    (tokens.decimal (digits_begin is_digit 10 decimal_digit (decimal n) h.0) (digits_pass is_digit 10 decimal_digit (decimal n) h.0.1))

pub hexadecimal_token : (n : ℕ) → n < 2 ^ 64 → IsToken (48 ∷ 120 ∷ digits 16 false n) (parts.Number n bases.Hexadecimal)
hexadecimal_token n lt =
    let h = digits_is_IsNumeral 16 false (omega arith) (omega arith) n (omega arith) in
    subst (λ (m : ℕ). IsToken (48 ∷ 120 ∷ digits 16 false n) (parts.Number m bases.Hexadecimal)) h.1
    (hexadecimal (digits_begin is_hexadecimal 16 hexadecimal_digit (digits 16 false n) h.0) (digits_pass is_hexadecimal 16 hexadecimal_digit (digits 16 false n) h.0.1))

pub record WritesBinary (n : ℕ) (ds : List ℕ) : Type 0 where
  pub digits : is_binary ds ≡ true
  pub value : binary_value ds ≡ n
  pub sound : IsSound (parts.Pattern ds)

pub binary_writes : (n : ℕ) → n < 2 ^ 64 → WritesBinary n (digits 2 false n)
binary_writes n lt =
    let h = digits_is_IsNumeral 2 false (omega arith) (omega arith) n (omega arith) in
    record {
      digits = digits_pass (λ (d : ℕ). d == 48 || d == 49) 2 binary_digit (digits 2 false n) h.0.1;
      value = binary_sum 0 (digits 2 false n) h.0.1 ∙ h.1;
      sound = record {
        text = 48 ∷ 98 ∷ digits 2 false n;
        is = pattern (digits_begin is_pattern_digit 2 pattern_digit (digits 2 false n) h.0) (digits_pass is_pattern_digit 2 pattern_digit (digits 2 false n) h.0.1);
        fits = length-binary n;
      };
    }

-- no text is a binary number: it is a pattern
pub not_binary : {text : List ℕ} {t : TokenPart} (n : ℕ) → IsToken text t → t ≡ parts.Number n bases.Binary → ⊥
not_binary n (named front all no_word no_type) e = cc
not_binary n (reserved k) e = cc
not_binary n (type_word s w) e = cc
not_binary n (tokens.decimal front all) e = cc
not_binary n (hexadecimal front all) e = cc
not_binary n (pattern front all) e = cc
not_binary n (string all) e = cc
not_binary n (sign s) e = cc

-- ---- the canonical text of a token

pub canonical_token : (t : TokenPart) → IsSound t → IsToken (token_text t) t
canonical_token (parts.Named name) h = same h.is
  where
    same : {text name : List ℕ} → IsToken text (parts.Named name) → IsToken name (parts.Named name)
    same (named front all no_word no_type) = named front all no_word no_type
canonical_token (parts.Reserved k) h = reserved k
canonical_token (parts.TypeWord s) h = same h.is
  where
    same : {text : List ℕ} → IsToken text (parts.TypeWord s) → IsToken (token_text (parts.TypeWord s)) (parts.TypeWord s)
    same (type_word s w) = type_word s w
canonical_token (parts.Number n bases.Decimal) h = decimal_token n h.fits
canonical_token (parts.Number n bases.Hexadecimal) h = hexadecimal_token n h.fits
canonical_token (parts.Number n bases.Binary) h = absurd (not_binary n h.is refl)
canonical_token (parts.Pattern ds) h = same h.is
  where
    same : {text ds : List ℕ} → IsToken text (parts.Pattern ds) → IsToken (48 ∷ 98 ∷ ds) (parts.Pattern ds)
    same (pattern front all) = pattern front all
canonical_token (parts.Text bytes) h = same h.is
  where
    same : {text bytes : List ℕ} → IsToken text (parts.Text bytes) → IsToken (34 ∷ (bytes ++ 34 ∷ [])) (parts.Text bytes)
    same (string all) = string all
canonical_token (parts.Sign s) h = sign s

-- a number keeps its soundness in decimal digits
pub sound_decimal : (n : ℕ) (base : Base) → IsSound (parts.Number n base) → IsSound (parts.Number n bases.Decimal)
sound_decimal n base h = record { text = decimal n; is = decimal_token n h.fits; fits = h.fits }
