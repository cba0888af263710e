-- Which bytes spell which tokens: each token is the longest that begins at its place.
use Rattle.std.specs.Prelude.{◌≡◌, ◌≢◌, ℕ, ◌+◌, ◌-◌, ◌*◌, ◌^◌, ◌≤◌, Bool, true, false, List, [], ◌∷◌, ◌++◌, length, codes, fold, nat_le, nat_lt, ◌==◌, ◌&&◌, ◌||◌, not, if◌then◌else◌, Option, Some, None}
use Rattle.std.specs.List.{list_all}
use Rattle.lisa_words.specs.Bytes.{is_blank, is_digit, is_hexadecimal, is_letter, is_word, front_is}
use Rattle.lisa_words.specs.Gaps.{IsGap, BrokenGap, starts_comment}
use Rattle.verilog_text.specs.declared.tokens.VKeyword.{VKeyword}
use Rattle.verilog_text.specs.declared.tokens.VKeyword.TheVariants as words
use Rattle.verilog_text.specs.declared.tokens.VSign.{VSign}
use Rattle.verilog_text.specs.declared.tokens.VSign.TheVariants as signs
use Rattle.verilog_text.specs.Tokens.{VTok, Named, Reserved, Sized, Plain, Mark}

abbrev pub vword_text : VKeyword → List ℕ
vword_text words.Module = codes "module"
vword_text words.Input = codes "input"
vword_text words.Wire = codes "wire"
vword_text words.EndModule = codes "endmodule"
vword_text words.Reg = codes "reg"
vword_text words.Initial = codes "initial"
vword_text words.Begin = codes "begin"
vword_text words.End = codes "end"
vword_text words.Always = codes "always"
vword_text words.PosEdge = codes "posedge"
vword_text words.If = codes "if"
vword_text words.Else = codes "else"

-- the sign of one byte
abbrev pub one_byte : ℕ → Option VSign
one_byte b =
    if b == 123 then Some signs.OpenBrace else (if b == 125 then Some signs.CloseBrace else (if b == 40 then Some signs.OpenRound else (if b == 41 then Some signs.CloseRound
    else (if b == 91 then Some signs.OpenSquare else (if b == 93 then Some signs.CloseSquare else (if b == 59 then Some signs.Semicolon else (if b == 44 then Some signs.Comma
    else (if b == 61 then Some signs.Equal else (if b == 60 then Some signs.Less else (if b == 62 then Some signs.Greater else (if b == 43 then Some signs.Plus
    else (if b == 45 then Some signs.Minus else (if b == 42 then Some signs.Star else (if b == 38 then Some signs.And else (if b == 124 then Some signs.Or
    else (if b == 94 then Some signs.Caret else (if b == 126 then Some signs.Tilde else (if b == 33 then Some signs.Exclamation else (if b == 63 then Some signs.Question
    else (if b == 58 then Some signs.Colon else (if b == 64 then Some signs.At else None)))))))))))))))))))))

-- the sign of two bytes: << >> <= >= == != && || ^~ ~^
abbrev pub two_bytes : ℕ → ℕ → Option VSign
two_bytes b c =
    if b == 60 && c == 60 then Some signs.ShiftLeft else (if b == 62 && c == 62 then Some signs.ShiftRight else (if b == 60 && c == 61 then Some signs.LessEqual
    else (if b == 62 && c == 61 then Some signs.GreaterEqual else (if b == 61 && c == 61 then Some signs.EqualEqual else (if b == 33 && c == 61 then Some signs.NotEqual
    else (if b == 38 && c == 38 then Some signs.AndAnd else (if b == 124 && c == 124 then Some signs.OrOr else (if b == 94 && c == 126 then Some signs.Xnor
    else (if b == 126 && c == 94 then Some signs.Xnor else None)))))))))

-- what a name is made of: letters, digits, `_` and `$`
abbrev pub is_name_byte : ℕ → Bool
is_name_byte b = is_word b || b == 36

-- what an escaped name is made of: printable bytes but for the space
abbrev pub is_graphic : ℕ → Bool
is_graphic b = nat_le 33 b && nat_le b 126

-- the bases of a number: d, h and b in either case
abbrev pub base_of : ℕ → Option ℕ
base_of b = if b == 100 || b == 68 then Some 10 else (if b == 104 || b == 72 then Some 16 else (if b == 98 || b == 66 then Some 2 else None))

abbrev pub digit_of : ℕ → ℕ
digit_of b = if nat_le b 57 then b - 48 else (if nat_le b 70 then b - 55 else b - 87)

-- a digit of a base
abbrev pub is_base_digit : ℕ → ℕ → Bool
is_base_digit base b = is_hexadecimal b && nat_lt (digit_of b) base

-- what may stand after the first digit
abbrev pub is_more_digit : ℕ → ℕ → Bool
is_more_digit base b = is_base_digit base b || b == 95

-- the number that digits of a base stand for, where each `_` is skipped
abbrev pub digits_number : ℕ → List ℕ → ℕ
digits_number base digits = fold (λ n b. if b == 95 then n else base * n + digit_of b) 0 digits

-- a text that is one token
pub data IsVToken : List ℕ → VTok → Type 0 where
  word : (keyword : VKeyword) {text : List ℕ} → text ≡ vword_text keyword → IsVToken text (Reserved keyword)
  simple : {b : ℕ} {bs : List ℕ} → is_letter b ≡ true → list_all is_name_byte bs ≡ true → ((keyword : VKeyword) → b ∷ bs ≢ vword_text keyword) → IsVToken (b ∷ bs) (Named (b ∷ bs))
  -- a backslash and the name
  escaped : {b : ℕ} {bs : List ℕ} → list_all is_graphic (b ∷ bs) ≡ true → IsVToken (92 ∷ b ∷ bs) (Named (b ∷ bs))
  plain : {b : ℕ} {bs : List ℕ} → list_all is_digit (b ∷ bs) ≡ true → IsVToken (b ∷ bs) (Plain (digits_number 10 (b ∷ bs)) (length (b ∷ bs)))
  -- a size without leading zeros, `'`, the base's letter, and digits
  sized : (base letter z b : ℕ) (zs bs : List ℕ) {text : List ℕ} → list_all is_digit (z ∷ zs) ≡ true → z ≢ 48 → base_of letter ≡ Some base → is_base_digit base b ≡ true
      → list_all (is_more_digit base) bs ≡ true → text ≡ (z ∷ zs) ++ (39 ∷ letter ∷ b ∷ bs) → IsVToken text (Sized (digits_number 10 (z ∷ zs)) (digits_number base (b ∷ bs)))
  one : {b : ℕ} {sign : VSign} → one_byte b ≡ Some sign → IsVToken (b ∷ []) (Mark sign)
  two : {b c : ℕ} {sign : VSign} → two_bytes b c ≡ Some sign → IsVToken (b ∷ c ∷ []) (Mark sign)

-- the longest token at the front of the bytes
pub record Begins (bytes text rest : List ℕ) (tok : VTok) : Type 0 where
  pub parts : bytes ≡ text ++ rest
  pub is : IsVToken text tok
  pub longest : (more after : List ℕ) (other : VTok) → bytes ≡ more ++ after → IsVToken more other → length more ≤ length text

-- The token, where this text is followed by the rest, is one of the subset: an escaped name ends at white space, a plain number is
-- below 2 ^ 31 and no `'` follows it, and a number has a size from 1 to 64, which its value fits.
abbrev pub is_accepted : List ℕ → VTok → List ℕ → Bool
is_accepted text (Named name) rest = not (front_is (λ b. b == 92) text) || front_is is_blank rest
is_accepted text (Reserved keyword) rest = true
is_accepted text (Sized width value) rest = nat_le width 64 && nat_lt value (2 ^ width)
is_accepted text (Plain value digits) rest = nat_lt value (2 ^ 31) && not (front_is (λ b. b == 39) rest)
is_accepted text (Mark sign) rest = true

-- of the base that a letter stands for: its digits may be `?`, for unknown bits, in the standard
abbrev pub has_unknown : Option ℕ → Bool
has_unknown None = false
has_unknown (Some base) = not (base == 10)

-- the same of a number with a size, by the letter behind its `'`
abbrev pub may_be_unknown : List ℕ → Bool
may_be_unknown [] = false
may_be_unknown (b ∷ bs) = if b == 39 then front_is (λ letter. has_unknown (base_of letter)) bs else may_be_unknown bs

-- What no number may be followed by directly: what a name is made of, and a `?` where that would be one more of its digits.
abbrev pub is_glued : List ℕ → VTok → List ℕ → Bool
is_glued text (Sized width value) rest = front_is is_name_byte rest || (front_is (λ b. b == 63) rest && may_be_unknown text)
is_glued text (Plain value digits) rest = front_is is_name_byte rest
is_glued text _ rest = false

-- the bytes from a place on are blanks, comments and longest tokens
pub data Lexes : ℕ → List ℕ → List (ℕ × VTok) → Type 0 where
  end : {at : ℕ} → Lexes at [] []
  gap : {at : ℕ} {bytes text rest : List ℕ} {ts : List (ℕ × VTok)} → bytes ≡ text ++ rest → IsGap text rest → Lexes (at + length text) rest ts → Lexes at bytes ts
  token : {at : ℕ} {bytes text rest : List ℕ} {tok : VTok} {ts : List (ℕ × VTok)} → Begins bytes text rest tok → is_accepted text tok rest ≡ true → is_glued text tok rest ≡ false
      → Lexes (at + length text) rest ts → Lexes at bytes ((at, tok) ∷ ts)

-- at the front of the bytes, which stand from a place on, a byte is at fault, and its place
pub data Stuck : ℕ → List ℕ → ℕ → Type 0 where
  comment : {at n : ℕ} {bytes : List ℕ} → BrokenGap bytes n → Stuck at bytes (at + n)
  nothing : {at b : ℕ} {bs : List ℕ} → is_blank b ≡ false → starts_comment (b ∷ bs) ≡ false → ((text rest : List ℕ) (tok : VTok) → Begins (b ∷ bs) text rest tok → ⊥) → Stuck at (b ∷ bs) at
  refused : {at : ℕ} {bytes text rest : List ℕ} {tok : VTok} → Begins bytes text rest tok → is_accepted text tok rest ≡ false → Stuck at bytes at
  glued : {at : ℕ} {bytes text rest : List ℕ} {tok : VTok} → Begins bytes text rest tok → is_accepted text tok rest ≡ true → is_glued text tok rest ≡ true → Stuck at bytes (at + length text)

-- the first byte at fault from a place on
pub data Breaks : ℕ → List ℕ → ℕ → Type 0 where
  behind_gap : {at place : ℕ} {bytes text rest : List ℕ} → bytes ≡ text ++ rest → IsGap text rest → Breaks (at + length text) rest place → Breaks at bytes place
  behind_token : {at place : ℕ} {bytes text rest : List ℕ} {tok : VTok} → Begins bytes text rest tok → is_accepted text tok rest ≡ true → is_glued text tok rest ≡ false
      → Breaks (at + length text) rest place → Breaks at bytes place
  stuck : {at place : ℕ} {bytes : List ℕ} → Stuck at bytes place → Breaks at bytes place
