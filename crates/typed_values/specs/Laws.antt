-- What holds of values.
use Rattle.std.specs.Prelude.{◌≡◌, ◌<◌, ◌≤◌, ◌^◌, ℕ, List, ⊤}
use Rattle.lisa_words.specs.declared.words.Kind.{Kind}
use Rattle.lisa_words.specs.Words.{word_cut}
use Rattle.lisa_tree.specs.Expressions as exprs
use Rattle.lisa_tree.specs.Expressions.{ExprTree}
use Rattle.typed_values.specs.Words.{TypedWord, fitted, number_value}
use Rattle.typed_values.specs.Expressions.{Reader, value}

-- a width that words have, and bits within it
pub record IsFit (w : TypedWord) : Type 0 where
  pub least : 1 ≤ w.width
  pub most : w.width ≤ 64
  pub within : w.bits < 2 ^ w.width

-- whatever is read fits its width
pub record ReadsFit (reader : Reader) : Type 0 where
  pub named : (n : List ℕ) → IsFit (reader.named n)
  pub element : (n : List ℕ) (index : ℕ) → IsFit (reader.element n index)
  pub input : (field : List ℕ) → IsFit (reader.input field)
  pub boundary : (pipe before after field : List ℕ) → IsFit (reader.boundary pipe before after field)
  pub decoded : IsFit reader.decoded

-- each number in an expression is below 2 ^ 64
abbrev pub HasNumbers : ExprTree → Type 0
HasNumbers (exprs.Number v base) = v < 2 ^ 64
HasNumbers (exprs.Named n) = ⊤
HasNumbers (exprs.Element n index) = HasNumbers index
HasNumbers (exprs.Input field) = ⊤
HasNumbers (exprs.Output field) = ⊤
HasNumbers (exprs.Boundary pipe before after field) = ⊤
HasNumbers exprs.Decoded = ⊤
HasNumbers (exprs.Cast shape a) = HasNumbers a
HasNumbers (exprs.Complement a) = HasNumbers a
HasNumbers (exprs.Negate a) = HasNumbers a
HasNumbers (exprs.Two operator a b) = HasNumbers a × HasNumbers b
HasNumbers (exprs.Choose c a b) = HasNumbers c × HasNumbers a × HasNumbers b

-- the value of an expression fits its width, where all that it reads does
abbrev pub ValueFits : Reader → ExprTree → Type 0
ValueFits reader e = ReadsFit reader → HasNumbers e → IsFit (value reader e)

-- at any width a number is the same word in both kinds
abbrev pub IsWholeLiteral : Kind → ℕ → ℕ → Type 0
IsWholeLiteral kind v width = v < 2 ^ 64 → fitted (number_value kind v) width ≡ word_cut width v
