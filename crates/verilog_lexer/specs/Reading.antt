-- Reading tokens from left to right, as functions on lists.
use Rattle.std.specs.Prelude.{ℕ, ◌+◌, ◌*◌, ◌^◌, ◌<◌, Bool, false, List, [], ◌∷◌, length, take, drop, codes, Option, Some, None, Result, Ok, Err, nat_lt, nat_le, ◌==◌, ◌&&◌, ◌||◌, not, if◌then◌else◌}
use Rattle.std.specs.List.{prefix_len}
use Rattle.std.specs.Str.{bytes_eq}
use Rattle.lisa_words.specs.declared.gaps.Gap.{Gap}
use Rattle.lisa_words.specs.declared.gaps.Gap.TheVariants as gaps
use Rattle.lisa_words.specs.Bytes.{is_digit, is_letter, front_is}
use Rattle.lisa_words.specs.Gaps.{gap_at}
use Rattle.lisa_words.specs.Fix.{fix}
use Rattle.verilog_text.specs.declared.tokens.VKeyword.{VKeyword}
use Rattle.verilog_text.specs.declared.tokens.VKeyword.TheVariants as words
use Rattle.verilog_text.specs.declared.tokens.VSign.{VSign}
use Rattle.verilog_text.specs.Tokens.{VTok, Named, Reserved, Sized, Plain, Mark}
use Rattle.verilog_text.specs.Lexing.{one_byte, two_bytes, is_name_byte, is_graphic, base_of, is_base_digit, is_more_digit, digits_number, is_accepted, is_glued}

abbrev pub keyword_of : List ℕ → Option VKeyword
keyword_of w =
    if bytes_eq w (codes "module") then Some words.Module
    else (if bytes_eq w (codes "input") then Some words.Input
    else (if bytes_eq w (codes "wire") then Some words.Wire
    else (if bytes_eq w (codes "endmodule") then Some words.EndModule
    else (if bytes_eq w (codes "reg") then Some words.Reg
    else (if bytes_eq w (codes "initial") then Some words.Initial
    else (if bytes_eq w (codes "begin") then Some words.Begin
    else (if bytes_eq w (codes "end") then Some words.End
    else (if bytes_eq w (codes "always") then Some words.Always
    else (if bytes_eq w (codes "posedge") then Some words.PosEdge
    else (if bytes_eq w (codes "if") then Some words.If
    else (if bytes_eq w (codes "else") then Some words.Else
    else None)))))))))))

abbrev pub named_or : List ℕ → Option VKeyword → VTok
named_or w None = Named w
named_or w (Some k) = Reserved k

abbrev pub word_tok : List ℕ → VTok
word_tok w = named_or w (keyword_of w)

-- a token and how many bytes it has
abbrev pub Found : Type 0
Found = Option (ℕ × VTok)

abbrev pub word_at : List ℕ → Found
word_at bytes = Some (prefix_len is_name_byte bytes, word_tok (take (prefix_len is_name_byte bytes) bytes))

-- by what stands behind the backslash
abbrev pub escaped_at : List ℕ → Found
escaped_at body = if front_is is_graphic body then Some (1 + prefix_len is_graphic body, Named (take (prefix_len is_graphic body) body)) else None

abbrev pub plain_at : List ℕ → Found
plain_at zs = Some (length zs, Plain (digits_number 10 zs) (length zs))

-- a size, and behind its `'` and the letter of a base the digit b and bs
abbrev pub based_at : List ℕ → Option ℕ → ℕ → List ℕ → Found
based_at zs None b bs = plain_at zs
based_at zs (Some base) b bs =
    if is_base_digit base b then Some (length zs + (3 + prefix_len (is_more_digit base) bs), Sized (digits_number 10 zs) (digits_number base (b ∷ take (prefix_len (is_more_digit base) bs) bs)))
    else plain_at zs

abbrev pub is_zero : ℕ → Bool
is_zero b = b == 48

abbrev pub digit_base : Option ℕ → ℕ → Option ℕ
digit_base None b = None
digit_base (Some base) b = if is_base_digit base b then Some base else None

-- the base of the number that a size begins
abbrev pub base_behind : List ℕ → List ℕ → Option ℕ
base_behind zs (q ∷ letter ∷ b ∷ bs) = if q == 39 && not (front_is is_zero zs) then digit_base (base_of letter) b else None
base_behind zs _ = None

-- by the digits, and what stands behind them
abbrev pub sized_at : List ℕ → List ℕ → Found
sized_at zs (q ∷ letter ∷ b ∷ bs) = if q == 39 && not (front_is is_zero zs) then based_at zs (base_of letter) b bs else plain_at zs
sized_at zs _ = plain_at zs

abbrev pub number_at : List ℕ → Found
number_at bytes = sized_at (take (prefix_len is_digit bytes) bytes) (drop (prefix_len is_digit bytes) bytes)

abbrev pub one_of : Option VSign → Found
one_of None = None
one_of (Some s) = Some (1, Mark s)

abbrev pub two_of : Option VSign → Option VSign → Found
two_of None o = one_of o
two_of (Some s) o = Some (2, Mark s)

abbrev pub sign_at : List ℕ → Found
sign_at [] = None
sign_at (b ∷ []) = one_of (one_byte b)
sign_at (b ∷ c ∷ bs) = two_of (two_bytes b c) (one_byte b)

abbrev pub is_backslash : ℕ → Bool
is_backslash b = b == 92

-- the longest token at the front, if there is one
unfoldable pub longest_at : List ℕ → Found
longest_at bytes =
    if front_is is_letter bytes then word_at bytes
    else (if front_is is_backslash bytes then escaped_at (drop 1 bytes)
    else (if front_is is_digit bytes then number_at bytes
    else sign_at bytes))

-- what stands at the front: bytes to skip, or a token, each with its length
pub data Item : Type 0 where
  Skip : ℕ → Item
  Take : ℕ → VTok → Item

-- what stands at the front, or the place of the byte at fault
abbrev pub Front : Type 0
Front = Result Item ℕ

-- the token of this text, where the rest follows
abbrev pub verdict : ℕ → ℕ → List ℕ → VTok → List ℕ → Front
verdict at n text tok rest = if is_accepted text tok rest then (if is_glued text tok rest then Err (at + n) else Ok (Take n tok)) else Err at

-- a token that no name may follow directly
abbrev pub loose : ℕ → ℕ → VTok → List ℕ → Front
loose at n tok rest = if front_is is_name_byte rest then Err (at + n) else Ok (Take n tok)

-- what no number of a base may be followed by directly
abbrev pub goes_on : ℕ → List ℕ → Bool
goes_on base rest = front_is is_name_byte rest || (front_is (λ b. b == 63) rest && not (base == 10))

-- a number with its size, by its base
abbrev pub sized_verdict : ℕ → ℕ → ℕ → VTok → List ℕ → Front
sized_verdict at n base tok rest = if is_accepted [] tok rest then (if goes_on base rest then Err (at + n) else Ok (Take n tok)) else Err at

-- a width and a value that fits it
abbrev pub fitting : ℕ → ℕ → Option (ℕ × ℕ)
fitting width value = if nat_le width 64 && nat_lt value (2 ^ width) then Some (width, value) else None

-- a number with its size, by what stands behind the letter of its base
abbrev pub based_verdict : ℕ → List ℕ → ℕ → List ℕ → Front
based_verdict at zs base body =
    sized_verdict at (length zs + (2 + length (take (1 + prefix_len (is_more_digit base) (drop 1 body)) body))) base
    (Sized (digits_number 10 zs) (digits_number base (take (1 + prefix_len (is_more_digit base) (drop 1 body)) body))) (drop (1 + prefix_len (is_more_digit base) (drop 1 body)) body)

abbrev pub judged : ℕ → List ℕ → Found → Front
judged at bytes None = Err at
judged at bytes (Some (n, tok)) = verdict at n (take n bytes) tok (drop n bytes)

abbrev pub past_gap : ℕ → List ℕ → Gap → Front
past_gap at bytes gaps.Absent = judged at bytes (longest_at bytes)
past_gap at bytes (gaps.Whole n) = Ok (Skip n)
past_gap at bytes (gaps.Broken n) = Err (at + n)

unfoldable pub item_at : ℕ → List ℕ → Front
item_at at bytes = past_gap at bytes (gap_at bytes)

-- ---- all of them

-- the tokens with their places, or the place of the first byte at fault
abbrev pub Answer : Type 0
Answer = Result (List (ℕ × VTok)) ℕ

infixl 10 ◌>>=◌
abbrev pub ◌>>=◌ : {A B : Type 0} → Result A ℕ → (A → Result B ℕ) → Result B ℕ
(Ok x) >>= f = f x
(Err e) >>= f = Err e

abbrev pub Reader : Type 0
Reader = ℕ × List ℕ → Answer

abbrev pub on_item : Reader → ℕ → List ℕ → Item → Answer
on_item rec at bytes (Skip n) = rec (at + n, drop n bytes)
on_item rec at bytes (Take n tok) = rec (at + n, drop n bytes) >>= λ ts. Ok ((at, tok) ∷ ts)

abbrev pub lex_step : Reader → ℕ → List ℕ → Answer
lex_step rec at [] = Ok []
lex_step rec at (b ∷ bs) = item_at at (b ∷ bs) >>= λ i. on_item rec at (b ∷ bs) i

abbrev pub step : Reader → ℕ × List ℕ → Answer
step rec t = lex_step rec t.0 t.1

abbrev pub size : ℕ × List ℕ → ℕ
size t = length t.1

unfoldable pub lex : Reader
lex t = fix size (Ok []) step t
