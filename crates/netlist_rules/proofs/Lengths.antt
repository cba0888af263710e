-- How long the text of some tokens is, each with the white space behind it.
use Rattle.std.proofs.Common.{◌≡◌, ℕ, zero, suc, ◌+◌, ◌≤◌, ◌^◌, ◌<◌, Bool, true, false, [], ◌∷◌, ◌++◌, length, subst, arith, nat_eq, if◌then◌else◌}
use Rattle.std.specs.Fmt.{decimal}
use Rattle.std.proofs.lemmas.Bool.{cond_both, eqb-true}
use Rattle.std.proofs.lemmas.Fmt.{length-decimal-le}
use Rattle.std.proofs.lemmas.List.{length-append}
use Rattle.verilog_text.specs.Tokens.{VTok, VToks, Named, Reserved, Sized, Plain, Mark}
use Rattle.verilog_text.specs.Lexing.{vword_text}
use Rattle.verilog_text.specs.Printing.{vsign_text, token_text, space_behind, piece_text, tokens_text}
use Rattle.verilog_text.proofs.TokenContents.{IsWritten, AreWritten}
use Rattle.verilog_text.proofs.WrittenTexts.{small_power}

-- a number with its size, of one bit or of at most 64
abbrev pub number_size : (width : ℕ) → ℕ
number_size width = if nat_eq width 1 then 6 else 25

number_between : (width : ℕ) → (6 ≤ number_size width) × (number_size width ≤ 25)
number_between width = go (nat_eq width 1)
  where
    go : (one : Bool) → (6 ≤ (if one then 6 else 25)) × ((if one then 6 else 25) ≤ 25)
    go true = (omega arith, omega arith)
    go false = (omega arith, omega arith)

pub number_low : (width : ℕ) → number_size width ≤ 25
number_low width = (number_between width).1

-- a number with its size is 0 or as long as told, and each other token is exactly as long
abbrev pub tok_size : VTok → ℕ
tok_size (Named name) = 2 + length name
tok_size (Reserved keyword) = suc (length (vword_text keyword))
tok_size (Sized width zero) = 6
tok_size (Sized width (suc value)) = number_size width
tok_size (Plain value digits) = suc digits
tok_size (Mark sign) = suc (length (vsign_text sign))

pub sized_most : (width value : ℕ) → tok_size (Sized width value) ≤ number_size width
sized_most width zero = (number_between width).0
sized_most width (suc value) = omega arith

abbrev pub toks_size : VToks → ℕ
toks_size [] = 0
toks_size (t ∷ ts) = tok_size t + toks_size ts

pub toks_size-append : (xs ys : VToks) → toks_size (xs ++ ys) ≡ toks_size xs + toks_size ys
toks_size-append [] ys = omega arith
toks_size-append (t ∷ xs) ys = omega (arith, toks_size-append xs ys)

text_short : (t : VTok) → IsWritten t → suc (length (token_text t)) ≤ tok_size t
text_short (Named name) h = omega arith
text_short (Reserved keyword) h = omega arith
text_short (Sized width zero) h =
    omega (
      arith,
      length-append (decimal width) (39 ∷ 100 ∷ decimal 0),
      length-decimal-le 2 width (omega arith) (omega (arith, h.1)) (omega (arith, h.1)),
      length-decimal-le 1 0 (omega arith) (omega arith) (omega arith),
    )
text_short (Sized width (suc value)) h = cond_both (nat_eq width 1) 6 25 (λ (n : ℕ). suc (length (token_text (Sized width (suc value)))) ≤ n)
    (λ e. (let one = eqb-true width 1 e in
    let least : suc value < 2 ^ 1 = subst (λ (w : ℕ). suc value < 2 ^ w) one h.2 in
    omega (
      arith,
      length-append (decimal width) (39 ∷ 100 ∷ decimal (suc value)),
      length-decimal-le 1 width (omega arith) (omega (arith, one)) (omega (arith, one)),
      length-decimal-le 1 (suc value) (omega arith) (omega (arith, least)) (omega (arith, least)),
    )))
    (λ e. omega (
      arith,
      length-append (decimal width) (39 ∷ 100 ∷ decimal (suc value)),
      length-decimal-le 2 width (omega arith) (omega (arith, h.1)) (omega (arith, h.1)),
      length-decimal-le 20 (suc value) (omega arith) (omega (arith, small_power width (suc value) h.1 h.2)) (small_power width (suc value) h.1 h.2),
    ))
text_short (Plain value digits) h = omega (arith, h.1)
text_short (Mark sign) h = omega arith

pub texts_short : (ts : VToks) → AreWritten ts → length (tokens_text ts) ≤ toks_size ts
texts_short [] h = omega arith
texts_short (t ∷ ts) h = omega (arith, text_short t h.0, texts_short ts h.1, length-append (piece_text t) (tokens_text ts), length-append (token_text t) (space_behind t ∷ []))
