-- A sign is known by its number.
use Rattle.std.proofs.Common.{◌≡◌, ℕ, ◌<◌, Bool, true, false, cond, eqb, List, [], ◌∷◌, length, get_or, Some, None, refl, sym, ap, ◌∙◌, arith}
use Rattle.std.proofs.lemmas.Bool.{eqb-true}
use Rattle.verilog_text.specs.declared.tokens.VSign.{VSign}
use Rattle.verilog_text.specs.declared.tokens.VSign.TheVariants as signs
use Rattle.verilog_text.specs.Tokens as tokens
use Rattle.verilog_places.specs.Spelling.{PlacedToks}
use Rattle.lisa_words.proofs.StepLaws.{some_is}
use Rattle.verilog_expression_reader.specs.Past.{number_of, past_of}

abbrev all : List VSign
all = signs.ShiftLeft ∷ signs.ShiftRight ∷ signs.LessEqual ∷ signs.GreaterEqual ∷ signs.EqualEqual ∷ signs.NotEqual ∷ signs.AndAnd ∷ signs.OrOr ∷ signs.Xnor ∷ signs.OpenBrace ∷ signs.CloseBrace ∷ signs.OpenRound ∷ signs.CloseRound ∷ signs.OpenSquare ∷ signs.CloseSquare ∷ signs.Semicolon ∷ signs.Comma ∷ signs.Equal ∷ signs.Less ∷ signs.Greater ∷ signs.Plus ∷ signs.Minus ∷ signs.Star ∷ signs.And ∷ signs.Or ∷ signs.Caret ∷ signs.Tilde ∷ signs.Exclamation ∷ signs.Question ∷ signs.Colon ∷ signs.At ∷ []

at_number : (s : VSign) → get_or all (number_of s) signs.ShiftLeft ≡ s
at_number signs.ShiftLeft = refl
at_number _ = refl

pub same_sign : (s t : VSign) → number_of s ≡ number_of t → s ≡ t
same_sign s t e = sym (at_number s) ∙ ap (λ n. get_or all n signs.ShiftLeft) e ∙ at_number t

-- the sign stands in front
pub record IsPast (s : VSign) (ts rest : PlacedToks) : Type 0 where
  pub at : ℕ
  pub is : ts ≡ (at, tokens.Mark s) ∷ rest

pub past_is : (s : VSign) (ts rest : PlacedToks) → past_of s ts ≡ Some rest → IsPast s ts rest
past_is s ((at, tokens.Mark t) ∷ ts) rest e = go (eqb (number_of t) (number_of s)) refl e
  where
    go : (b : Bool) → eqb (number_of t) (number_of s) ≡ b → cond b (Some ts) None ≡ Some rest → IsPast s ((at, tokens.Mark t) ∷ ts) rest
    go true is f = record { at = at; is = ap (λ (u : VSign). (at, tokens.Mark u) ∷ ts) (same_sign t s (eqb-true _ _ is)) ∙ ap (λ (l : PlacedToks). (at, tokens.Mark s) ∷ l) (some_is ts rest f) }
    go false is f = absurd cc
past_is s _ rest e = absurd cc

pub past_shorter : (s : VSign) (ts rest : PlacedToks) → past_of s ts ≡ Some rest → length rest < length ts
past_shorter s ts rest e = let p = past_is s ts rest e in omega (arith, ap length p.is)
