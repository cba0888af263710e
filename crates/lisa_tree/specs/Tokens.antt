-- Which bytes spell which tokens, and the first fault of bytes that spell none. IsToken: what a text is by itself; Begins: the longest token
-- at the front; Lexes: the bytes from a place on are gaps and longest tokens; Breaks: the first fault from a place on.
use Rattle.std.specs.Prelude.{◌≡◌, ℕ, ◌+◌, ◌^◌, ◌<◌, ◌≤◌, Bool, true, false, List, [], ◌∷◌, ◌++◌, length, map, ◌==◌, ◌&&◌, ◌||◌, not}
use Rattle.std.specs.List.{list_all}
use Rattle.std.specs.Str.Parse.{digits_value}
use Rattle.lisa_words.specs.Bytes.{is_blank, is_digit, is_hexadecimal, is_letter, is_word, is_printable, front_is}
use Rattle.lisa_words.specs.Gaps.{IsGap, BrokenGap, starts_comment}
use Rattle.lisa_tree.specs.declared.faults.DescFault.{DescFault}
use Rattle.lisa_tree.specs.declared.faults.DescFault.TheVariants as faults
use Rattle.lisa_tree.specs.declared.tokens.Base.{Base}
use Rattle.lisa_tree.specs.declared.tokens.Base.TheVariants as bases
use Rattle.lisa_tree.specs.declared.tokens.Keyword.{Keyword}
use Rattle.lisa_tree.specs.declared.tokens.Shape.{Shape}
use Rattle.lisa_tree.specs.declared.tokens.Sign.{Sign}
use Rattle.lisa_tree.specs.declared.tokens.Token.{Token}
use Rattle.lisa_tree.specs.declared.tokens.TokenPart.{TokenPart}
use Rattle.lisa_tree.specs.declared.tokens.TokenPart.TheVariants as parts
use Rattle.lisa_tree.specs.Spellings.{sign_text, keyword_text, shape_text}

-- the digits of a pattern: 0, 1 and x
abbrev pub is_pattern_digit : ℕ → Bool
is_pattern_digit b = b == 48 || b == 49 || b == 120

-- what stands between the quotes of a string: printable bytes other than " \ ; : @
abbrev pub is_in_string : ℕ → Bool
is_in_string b = is_printable b && not (b == 34 || b == 92 || b == 59 || b == 58 || b == 64)

-- the widths that a type word has
abbrev pub IsTypeWidth : ℕ → Type 0
IsTypeWidth width = (1 ≤ width) × (width ≤ 99)

-- a text that is a type word
abbrev pub IsTypeWord : List ℕ → Shape → Type 0
IsTypeWord text shape = IsTypeWidth shape.width × (text ≡ shape_text shape)

-- a text that is one token
pub data IsToken : List ℕ → TokenPart → Type 0 where
  -- a name is no reserved word and no type word
  named : {text : List ℕ} → front_is is_letter text ≡ true → list_all is_word text ≡ true → ((k : Keyword) → text ≡ keyword_text k → ⊥) → ((s : Shape) → IsTypeWord text s → ⊥)
      → IsToken text (parts.Named text)
  reserved : (k : Keyword) → IsToken (keyword_text k) (parts.Reserved k)
  type_word : (s : Shape) → IsTypeWidth s.width → IsToken (shape_text s) (parts.TypeWord s)
  decimal : {digits : List ℕ} → front_is is_digit digits ≡ true → list_all is_digit digits ≡ true → IsToken digits (parts.Number (digits_value 10 digits) bases.Decimal)
  -- 0x and hexadecimal digits of either case
  hexadecimal : {digits : List ℕ} → front_is is_hexadecimal digits ≡ true → list_all is_hexadecimal digits ≡ true
      → IsToken (48 ∷ 120 ∷ digits) (parts.Number (digits_value 16 digits) bases.Hexadecimal)
  -- 0b and pattern digits
  pattern : {digits : List ℕ} → front_is is_pattern_digit digits ≡ true → list_all is_pattern_digit digits ≡ true → IsToken (48 ∷ 98 ∷ digits) (parts.Pattern digits)
  -- a string in its quotes
  string : {text : List ℕ} → list_all is_in_string text ≡ true → IsToken (34 ∷ (text ++ 34 ∷ [])) (parts.Text text)
  sign : (s : Sign) → IsToken (sign_text s) (parts.Sign s)

-- the longest token at the front of the bytes
pub record Begins (bytes text rest : List ℕ) (part : TokenPart) : Type 0 where
  pub parts : bytes ≡ text ++ rest
  pub is : IsToken text part
  pub longest : (more after : List ℕ) (other : TokenPart) → bytes ≡ more ++ after → IsToken more other → length more ≤ length text

-- what may not follow a token directly: a letter, digit or _ behind a number or a pattern
abbrev pub is_glued : TokenPart → List ℕ → Bool
is_glued (parts.Number value base) rest = front_is is_word rest
is_glued (parts.Pattern digits) rest = front_is is_word rest
is_glued _ rest = false

-- a name has at most 64 bytes, a number is below 2 ^ 64, and a pattern has at most 64 digits
abbrev pub Fits : TokenPart → Type 0
Fits (parts.Named name) = length name ≤ 64
Fits (parts.Number value base) = value < 2 ^ 64
Fits (parts.Pattern digits) = length digits ≤ 64
Fits _ = Unit {0}

abbrev pub placed : ℕ → TokenPart → Token
placed at part = record { at = at; part = part }

-- the tokens without their places
abbrev pub toks : List Token → List TokenPart
toks ts = map (λ (t : Token). t.part) ts

-- the bytes from a place on are gaps and longest tokens, each with the place of its first byte
pub data Lexes : ℕ → List ℕ → List Token → Type 0 where
  end : {at : ℕ} → Lexes at [] []
  gap : {at : ℕ} {bytes text rest : List ℕ} {ts : List Token} → IsGap text rest → bytes ≡ text ++ rest → Lexes (at + length text) rest ts → Lexes at bytes ts
  token : {at : ℕ} {bytes text rest : List ℕ} {part : TokenPart} {ts : List Token} → starts_comment bytes ≡ false → Begins bytes text rest part → is_glued part rest ≡ false
      → Fits part → Lexes (at + length text) rest ts → Lexes at bytes (placed at part ∷ ts)

-- what stands at the front is refused
pub data Stuck : ℕ → List ℕ → DescFault → Type 0 where
  -- neither a blank, a comment, a string nor another token begins
  bad : {at b : ℕ} {bs : List ℕ} → is_blank b ≡ false → starts_comment (b ∷ bs) ≡ false → (b == 34) ≡ false
      → ((text rest : List ℕ) (part : TokenPart) → Begins (b ∷ bs) text rest part → ⊥) → Stuck at (b ∷ bs) (faults.BadByte at)
  -- a comment is at fault
  broken : {at n : ℕ} {bytes : List ℕ} → BrokenGap bytes n → Stuck at bytes (faults.BadByte (at + n))
  -- a byte that no string has stands before a second quote
  in_string : {at : ℕ} (text rest : List ℕ) (b : ℕ) → list_all is_in_string text ≡ true → is_in_string b ≡ false → (b == 34) ≡ false
      → Stuck at (34 ∷ (text ++ b ∷ rest)) (faults.BadByte (at + (1 + length text)))
  -- the bytes end inside a string
  no_quote : {at : ℕ} {text : List ℕ} → list_all is_in_string text ≡ true → Stuck at (34 ∷ text) (faults.BadByte at)
  -- a letter, digit or _ stands directly behind a number or a pattern
  glued : {at : ℕ} {bytes text rest : List ℕ} {part : TokenPart} → Begins bytes text rest part → Fits part → is_glued part rest ≡ true → Stuck at bytes (faults.BadByte (at + length text))
  wide_number : {at value : ℕ} {base : Base} {bytes text rest : List ℕ} → Begins bytes text rest (parts.Number value base) → 2 ^ 64 ≤ value → Stuck at bytes (faults.NumberTooWide at)
  wide_pattern : {at : ℕ} {bytes text rest digits : List ℕ} → Begins bytes text rest (parts.Pattern digits) → 64 < length digits → Stuck at bytes (faults.NumberTooWide at)
  long : {at : ℕ} {bytes text rest name : List ℕ} → Begins bytes text rest (parts.Named name) → 64 < length name → Stuck at bytes (faults.NameTooLong at)

-- the first fault from a place on
pub data Breaks : ℕ → List ℕ → DescFault → Type 0 where
  behind_gap : {at : ℕ} {bytes text rest : List ℕ} {fault : DescFault} → IsGap text rest → bytes ≡ text ++ rest → Breaks (at + length text) rest fault → Breaks at bytes fault
  behind_token : {at : ℕ} {bytes text rest : List ℕ} {part : TokenPart} {fault : DescFault} → starts_comment bytes ≡ false → Begins bytes text rest part → is_glued part rest ≡ false
      → Fits part → Breaks (at + length text) rest fault → Breaks at bytes fault
  stuck : {at : ℕ} {bytes : List ℕ} {fault : DescFault} → Stuck at bytes fault → Breaks at bytes fault
