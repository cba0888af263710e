-- A sign is known by its number.
use Rattle.std.proofs.Common.{◌≡◌, ℕ, ◌<◌, Bool, true, false, cond, eqb, List, [], ◌∷◌, length, get_or, Option, Some, None, refl, sym, ap, ◌∙◌, arith}
use Rattle.std.proofs.lemmas.Bool.{eqb-true}
use Rattle.lisa_tree.specs.declared.tokens.Sign.{Sign}
use Rattle.lisa_tree.specs.declared.tokens.Sign.TheVariants as signs
use Rattle.lisa_tree.specs.declared.tokens.TokenPart.TheVariants as parts
use Rattle.lisa_tree.specs.Grammar.{Toks, mark}
use Rattle.lisa_words.proofs.StepLaws.{some_is}
use Rattle.lisa_behav_reader.specs.Past.{number_of, past_of}

abbrev all : List Sign
all = signs.ShiftLeft ∷ signs.ShiftRight ∷ signs.LessEqual ∷ signs.GreaterEqual ∷ signs.EqualEqual ∷ signs.NotEqual ∷ signs.AndAnd ∷ signs.OrOr ∷ signs.DecimalFormat ∷ signs.SignedFormat ∷ signs.HexadecimalFormat ∷ signs.OpenBrace ∷ signs.CloseBrace ∷ signs.OpenRound ∷ signs.CloseRound ∷ signs.OpenSquare ∷ signs.CloseSquare ∷ signs.Semicolon ∷ signs.Comma ∷ signs.Dot ∷ signs.Equal ∷ signs.Less ∷ signs.Greater ∷ signs.Plus ∷ signs.Minus ∷ signs.Star ∷ signs.And ∷ signs.Or ∷ signs.Caret ∷ signs.Tilde ∷ signs.Exclamation ∷ signs.Question ∷ signs.Colon ∷ signs.Slash ∷ []

at_number : (s : Sign) → get_or all (number_of s) signs.ShiftLeft ≡ s
at_number signs.ShiftLeft = refl
at_number _ = refl

pub same_sign : (s t : Sign) → number_of s ≡ number_of t → s ≡ t
same_sign s t e = sym (at_number s) ∙ ap (λ n. get_or all n signs.ShiftLeft) e ∙ at_number t

pub past_is : (s : Sign) (ts rest : Toks) → past_of s ts ≡ Some rest → ts ≡ mark s ∷ rest
past_is s (parts.Sign t ∷ ts) rest e = go (eqb (number_of t) (number_of s)) refl e
  where
    go : (b : Bool) → eqb (number_of t) (number_of s) ≡ b → cond b (Some ts) None ≡ Some rest → mark t ∷ ts ≡ mark s ∷ rest
    go true is f = ap (λ (u : Sign). mark u ∷ ts) (same_sign t s (eqb-true _ _ is)) ∙ ap (λ (l : Toks). mark s ∷ l) (some_is ts rest f)
    go false is f = absurd cc
past_is s _ rest e = absurd cc

pub past_shorter : (s : Sign) (ts rest : Toks) → past_of s ts ≡ Some rest → length rest < length ts
past_shorter s ts rest e = omega (arith, ap length (past_is s ts rest e))
