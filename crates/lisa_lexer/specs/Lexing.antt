-- Reading tokens from left to right, as functions on lists.
use Rattle.std.specs.Prelude.{ℕ, ◌+◌, ◌^◌, Bool, false, List, [], ◌∷◌, length, take, drop, Option, Some, None, Result, Ok, Err, nat_lt, ◌==◌, ◌&&◌, if◌then◌else◌}
use Rattle.std.specs.List.{prefix_len}
use Rattle.std.specs.Str.Parse.{digits_value}
use Rattle.lisa_words.specs.declared.gaps.Gap.{Gap}
use Rattle.lisa_words.specs.declared.gaps.Gap.TheVariants as gaps
use Rattle.lisa_words.specs.Bytes.{is_digit, is_hexadecimal, is_letter, is_word, front_is}
use Rattle.lisa_words.specs.Gaps.{gap_at}
use Rattle.lisa_words.specs.Fix.{fix}
use Rattle.lisa_tree.specs.declared.faults.DescFault.{DescFault}
use Rattle.lisa_tree.specs.declared.faults.DescFault.TheVariants as faults
use Rattle.lisa_tree.specs.declared.tokens.Base.TheVariants as bases
use Rattle.lisa_tree.specs.declared.tokens.Sign.{Sign}
use Rattle.lisa_tree.specs.declared.tokens.Token.{Token}
use Rattle.lisa_tree.specs.declared.tokens.TokenPart.{TokenPart}
use Rattle.lisa_tree.specs.declared.tokens.TokenPart.TheVariants as parts
use Rattle.lisa_tree.specs.Tokens.{is_pattern_digit, is_in_string, placed}
use Rattle.lisa_lexer.specs.declared.items.Item.{Item}
use Rattle.lisa_lexer.specs.declared.items.Item.TheVariants.{Skip, Take}
use Rattle.lisa_lexer.specs.Reserved.{word_part}
use Rattle.lisa_lexer.specs.Signs.{one_byte, two_bytes}

-- what stands at the front, or the fault there
abbrev pub Front : Type 0
Front = Result Item DescFault

unfoldable pub word_at : ℕ → List ℕ → Front
word_at at bytes =
    if nat_lt 64 (prefix_len is_word bytes) then Err (faults.NameTooLong at)
    else Ok (Take (prefix_len is_word bytes) (word_part (take (prefix_len is_word bytes) bytes)))

-- a number or a pattern of so many bytes, where the rest follows
abbrev pub unless_glued : ℕ → ℕ → TokenPart → List ℕ → Front
unless_glued at n part rest = if front_is is_word rest then Err (faults.BadByte (at + n)) else Ok (Take n part)

unfoldable pub decimal_at : ℕ → List ℕ → Front
decimal_at at bytes =
    if nat_lt (digits_value 10 (take (prefix_len is_digit bytes) bytes)) (2 ^ 64)
    then unless_glued at (prefix_len is_digit bytes) (parts.Number (digits_value 10 (take (prefix_len is_digit bytes) bytes)) bases.Decimal) (drop (prefix_len is_digit bytes) bytes)
    else Err (faults.NumberTooWide at)

-- by what stands behind the 0x
unfoldable pub hexadecimal_at : ℕ → List ℕ → Front
hexadecimal_at at body =
    if nat_lt (digits_value 16 (take (prefix_len is_hexadecimal body) body)) (2 ^ 64)
    then unless_glued at (2 + prefix_len is_hexadecimal body) (parts.Number (digits_value 16 (take (prefix_len is_hexadecimal body) body)) bases.Hexadecimal) (drop (prefix_len is_hexadecimal body) body)
    else Err (faults.NumberTooWide at)

-- by what stands behind the 0b
unfoldable pub pattern_at : ℕ → List ℕ → Front
pattern_at at body =
    if nat_lt 64 (prefix_len is_pattern_digit body) then Err (faults.NumberTooWide at)
    else unless_glued at (2 + prefix_len is_pattern_digit body) (parts.Pattern (take (prefix_len is_pattern_digit body) body)) (drop (prefix_len is_pattern_digit body) body)

-- a 0, this letter and a byte that passes
abbrev pub starts_zero : ℕ → (ℕ → Bool) → List ℕ → Bool
starts_zero letter p (a ∷ b ∷ c ∷ bytes) = a == 48 && b == letter && p c
starts_zero letter p _ = false

unfoldable pub number_at : ℕ → List ℕ → Front
number_at at bytes =
    if starts_zero 120 is_hexadecimal bytes then hexadecimal_at at (drop 2 bytes)
    else (if starts_zero 98 is_pattern_digit bytes then pattern_at at (drop 2 bytes) else decimal_at at bytes)

-- by what stands behind the string's bytes
abbrev pub string_end : ℕ → ℕ → List ℕ → List ℕ → Front
string_end at n text [] = Err (faults.BadByte at)
string_end at n text (b ∷ bs) = if b == 34 then Ok (Take (2 + n) (parts.Text text)) else Err (faults.BadByte (at + (1 + n)))

-- by what stands behind the quote
unfoldable pub string_at : ℕ → List ℕ → Front
string_at at body = string_end at (prefix_len is_in_string body) (take (prefix_len is_in_string body) body) (drop (prefix_len is_in_string body) body)

abbrev pub one_at : ℕ → Option Sign → Front
one_at at None = Err (faults.BadByte at)
one_at at (Some s) = Ok (Take 1 (parts.Sign s))

abbrev pub two_at : ℕ → Option Sign → Option Sign → Front
two_at at None o = one_at at o
two_at at (Some s) o = Ok (Take 2 (parts.Sign s))

unfoldable pub sign_at : ℕ → List ℕ → Front
sign_at at [] = Err (faults.BadByte at)
sign_at at (b ∷ []) = one_at at (one_byte b)
sign_at at (b ∷ c ∷ bs) = two_at at (two_bytes b c) (one_byte b)

abbrev pub past_gap : ℕ → List ℕ → Gap → Front
past_gap at bytes gaps.Absent = sign_at at bytes
past_gap at bytes (gaps.Whole n) = Ok (Skip n)
past_gap at bytes (gaps.Broken n) = Err (faults.BadByte (at + n))

abbrev pub is_quote : ℕ → Bool
is_quote b = b == 34

unfoldable pub item_at : ℕ → List ℕ → Front
item_at at bytes =
    if front_is is_letter bytes then word_at at bytes
    else (if front_is is_digit bytes then number_at at bytes
    else (if front_is is_quote bytes then string_at at (drop 1 bytes) else past_gap at bytes (gap_at bytes)))

-- ---- all of them

abbrev pub Answer : Type 0
Answer = Result (List Token) DescFault

infixl 10 ◌>>=◌
abbrev pub ◌>>=◌ : {A B : Type 0} → Result A DescFault → (A → Result B DescFault) → Result B DescFault
(Ok x) >>= f = f x
(Err e) >>= f = Err e

abbrev pub Reader : Type 0
Reader = ℕ × List ℕ → Answer

abbrev pub on_item : Reader → ℕ → List ℕ → Item → Answer
on_item rec at bytes (Skip n) = rec (at + n, drop n bytes)
on_item rec at bytes (Take n part) = rec (at + n, drop n bytes) >>= λ ts. Ok (placed at part ∷ ts)

abbrev pub lex_step : Reader → ℕ → List ℕ → Answer
lex_step rec at [] = Ok []
lex_step rec at (b ∷ bs) = item_at at (b ∷ bs) >>= λ i. on_item rec at (b ∷ bs) i

abbrev pub step : Reader → ℕ × List ℕ → Answer
step rec t = lex_step rec t.0 t.1

abbrev pub size : ℕ × List ℕ → ℕ
size t = length t.1

-- the tokens from a place on, or the first fault
unfoldable pub lex : Reader
lex t = fix size (Ok []) step t
