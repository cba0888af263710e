-- What the first byte of a token says of it.
use Rattle.std.proofs.Common.{◌≡◌, ℕ, ◌<◌, Bool, true, false, List, [], ◌∷◌, ◌++◌, length, refl, arith}
use Rattle.std.specs.Str.Parse.{digits_value}
use Rattle.std.specs.List.{list_all}
use Rattle.std.proofs.lemmas.Bool.{both_ways, leb-true}
use Rattle.lisa_tree.specs.declared.tokens.Base.TheVariants as bases
use Rattle.lisa_tree.specs.declared.tokens.Sign.{Sign}
use Rattle.lisa_tree.specs.declared.tokens.TokenPart.{TokenPart}
use Rattle.lisa_tree.specs.declared.tokens.TokenPart.TheVariants as parts
use Rattle.lisa_tree.specs.Spellings.{keyword_text, shape_text, sign_text}
use Rattle.lisa_tree.specs.Tokens.{is_pattern_digit, is_in_string, IsToken, named, reserved, type_word, decimal, hexadecimal, pattern, string, sign}
use Rattle.lisa_words.specs.Bytes.{is_blank, is_digit, is_hexadecimal, is_letter, is_word, front_is}
use Rattle.lisa_lexer.specs.Lexing.{is_quote}
use Rattle.lisa_lexer.specs.Reserved.{word_part}
use Rattle.lisa_lexer.proofs.Fronts.{not_letter_digit, not_letter_quote, not_digit_quote, not_letter_blank, not_digit_blank, front_apart, front_false}
use Rattle.lisa_lexer.proofs.ReservedLaws.{keyword_front, shape_front, named_part, reserved_part, type_part}
use Rattle.lisa_lexer.proofs.SignLaws.{sign_no_letter, sign_no_digit, sign_no_quote, sign_no_blank, sign_len}

front_some : (p : ℕ → Bool) (xs : List ℕ) → front_is p xs ≡ true → 0 < length xs
front_some p [] e = absurd cc
front_some p (b ∷ xs) e = omega arith

pub token_some : {text : List ℕ} {part : TokenPart} → IsToken text part → 0 < length text
token_some (named {text = text} l all no_k no_s) = front_some is_letter text l
token_some (reserved k) = front_some is_letter (keyword_text k) (keyword_front k)
token_some (type_word s w) = front_some is_letter (shape_text s) (shape_front s)
token_some (decimal {digits = text} d all) = front_some is_digit text d
token_some (hexadecimal d all) = omega arith
token_some (pattern d all) = omega arith
token_some (string all) = omega arith
token_some (sign s) = leb-true _ _ (sign_len s).0

-- a token that begins with a letter is a run of word bytes
pub word_only : {text : List ℕ} {part : TokenPart} → IsToken text part → front_is is_letter text ≡ true → (list_all is_word text ≡ true) × (part ≡ word_part text)
word_only (named {text = text} l all no_k no_s) e = (all, named_part text no_k no_s)
word_only (reserved k) e = reserved_part k
word_only (type_word s w) e = type_part s w
word_only (decimal {digits = text} d all) e = absurd (front_apart is_letter is_digit not_letter_digit text e d)
word_only (hexadecimal d all) e = absurd cc
word_only (pattern d all) e = absurd cc
word_only (string all) e = absurd cc
word_only (sign s) e = absurd (both_ways (front_is is_letter (sign_text s)) (sign_no_letter s) e)

-- a number or a pattern
pub data NumberForm : List ℕ → TokenPart → Type 0 where
  is_decimal : {text : List ℕ} → list_all is_digit text ≡ true → NumberForm text (parts.Number (digits_value 10 text) bases.Decimal)
  is_hexa : {digits : List ℕ} → front_is is_hexadecimal digits ≡ true → list_all is_hexadecimal digits ≡ true → NumberForm (48 ∷ 120 ∷ digits) (parts.Number (digits_value 16 digits) bases.Hexadecimal)
  is_pattern : {digits : List ℕ} → front_is is_pattern_digit digits ≡ true → list_all is_pattern_digit digits ≡ true → NumberForm (48 ∷ 98 ∷ digits) (parts.Pattern digits)

pub number_only : {text : List ℕ} {part : TokenPart} → IsToken text part → front_is is_digit text ≡ true → NumberForm text part
number_only (named {text = text} l all no_k no_s) e = absurd (front_apart is_letter is_digit not_letter_digit text l e)
number_only (reserved k) e = absurd (front_apart is_letter is_digit not_letter_digit (keyword_text k) (keyword_front k) e)
number_only (type_word s w) e = absurd (front_apart is_letter is_digit not_letter_digit (shape_text s) (shape_front s) e)
number_only (decimal d all) e = is_decimal all
number_only (hexadecimal d all) e = is_hexa d all
number_only (pattern d all) e = is_pattern d all
number_only (string all) e = absurd cc
number_only (sign s) e = absurd (both_ways (front_is is_digit (sign_text s)) (sign_no_digit s) e)

-- a string
pub record StringForm (text : List ℕ) (part : TokenPart) : Type 0 where
  pub inner : List ℕ
  pub is : text ≡ 34 ∷ (inner ++ 34 ∷ [])
  pub all : list_all is_in_string inner ≡ true
  pub same : part ≡ parts.Text inner

pub string_only : {text : List ℕ} {part : TokenPart} → IsToken text part → front_is is_quote text ≡ true → StringForm text part
string_only (named {text = text} l all no_k no_s) e = absurd (front_apart is_letter is_quote not_letter_quote text l e)
string_only (reserved k) e = absurd (front_apart is_letter is_quote not_letter_quote (keyword_text k) (keyword_front k) e)
string_only (type_word s w) e = absurd (front_apart is_letter is_quote not_letter_quote (shape_text s) (shape_front s) e)
string_only (decimal {digits = text} d all) e = absurd (front_apart is_digit is_quote not_digit_quote text d e)
string_only (hexadecimal d all) e = absurd cc
string_only (pattern d all) e = absurd cc
string_only (string {text = text} all) e = record { inner = text; is = refl; all = all; same = refl }
string_only (sign s) e = absurd (both_ways (front_is is_quote (sign_text s)) (sign_no_quote s) e)

-- any other is a sign
pub sign_only : {text : List ℕ} {part : TokenPart} → IsToken text part → front_is is_letter text ≡ false → front_is is_digit text ≡ false → front_is is_quote text ≡ false → (s : Sign) × (text ≡ sign_text s) × (part ≡ parts.Sign s)
sign_only (named {text = text} l all no_k no_s) e f g = absurd (both_ways (front_is is_letter text) e l)
sign_only (reserved k) e f g = absurd (both_ways (front_is is_letter (keyword_text k)) e (keyword_front k))
sign_only (type_word s w) e f g = absurd (both_ways (front_is is_letter (shape_text s)) e (shape_front s))
sign_only (decimal {digits = text} d all) e f g = absurd (both_ways (front_is is_digit text) f d)
sign_only (hexadecimal d all) e f g = absurd cc
sign_only (pattern d all) e f g = absurd cc
sign_only (string all) e f g = absurd cc
sign_only (sign s) e f g = (s, refl, refl)

-- no token begins with a blank
pub token_no_blank : {text : List ℕ} {part : TokenPart} → IsToken text part → front_is is_blank text ≡ false
token_no_blank (named {text = text} l all no_k no_s) = front_false is_blank text (front_apart is_letter is_blank not_letter_blank text l)
token_no_blank (reserved k) = front_false is_blank (keyword_text k) (front_apart is_letter is_blank not_letter_blank (keyword_text k) (keyword_front k))
token_no_blank (type_word s w) = front_false is_blank (shape_text s) (front_apart is_letter is_blank not_letter_blank (shape_text s) (shape_front s))
token_no_blank (decimal {digits = text} d all) = front_false is_blank text (front_apart is_digit is_blank not_digit_blank text d)
token_no_blank (hexadecimal d all) = refl
token_no_blank (pattern d all) = refl
token_no_blank (string all) = refl
token_no_blank (sign s) = sign_no_blank s
