-- What stands at the front of a list of tokens.
use Rattle.std.specs.Prelude.{◌≡◌, ℕ, ◌≤◌, Bool, true, false, ◌∷◌, ◌++◌, is_some}
use Rattle.lisa_tree.specs.declared.tokens.Sign.TheVariants as signs
use Rattle.lisa_tree.specs.declared.tokens.TokenPart.TheVariants as parts
use Rattle.lisa_tree.specs.Grammar.{Toks}
use Rattle.lisa_behav_reader.specs.Reading.{operator_of}

-- the tokens before the rest spell it, and it is this deep at most
pub record IsFront {A : Type 0} (Spells : Toks → A → Type 0) (depth : A → ℕ) (n : ℕ) (ts : Toks) (x : A × Toks) : Type 0 where
  pub front : Toks
  pub parts : ts ≡ front ++ x.1
  pub spells : Spells front x.0
  pub deep : depth x.0 ≤ n

-- the first token goes on with an expression that stands before it: an operator, a `?`, or the `[` of an element
abbrev pub goes_on : Toks → Bool
goes_on (parts.Sign signs.Question ∷ ts) = true
goes_on (parts.Sign signs.OpenSquare ∷ ts) = true
goes_on (parts.Sign sign ∷ ts) = is_some (operator_of sign)
goes_on _ = false
