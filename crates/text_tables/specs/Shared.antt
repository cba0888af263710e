-- Texts that two of some forms share.
use Rattle.std.specs.Prelude.{ℕ, ◌≡◌, ◌<◌, ◌≤◌, List, [], length, Option, MatchOption, slice_index_or}
use Rattle.instruction_texts.specs.declared.shapes.Shape.{Shape}
use Rattle.instruction_texts.specs.declared.shapes.Token.{Token}
use Rattle.instruction_texts.specs.Shapes.{IsText}
use Rattle.instruction_texts.specs.Written.{text_bytes}
use Rattle.text_tables.specs.declared.shared.Shared.{Shared}

-- the pieces of the form of a number
abbrev pub shapes_at : List (List Shape) → ℕ → List Shape
shapes_at all k = slice_index_or all k []

-- two different forms with one text, the earlier one first
pub record IsShared (all : List (List Shape)) (i j : ℕ) (ts : List Token) : Type 0 where
  pub order : i < j
  pub within : j < length all
  pub first : IsText (shapes_at all i) ts
  pub second : IsText (shapes_at all j) ts

-- of all such forms it has the least first one, and with it the least second one, and some text of both
pub record IsFirstShared (all : List (List Shape)) (s : Shared) : Type 0 where
  pub tokens : List Token
  pub shared : IsShared all s.first s.second tokens
  pub text : s.text.items ≡ text_bytes tokens
  pub first : (i j : ℕ) (ts : List Token) → IsShared all i j ts → s.first ≤ i
  pub second : (j : ℕ) (ts : List Token) → IsShared all s.first j ts → s.second ≤ j

-- no two have one text, or these are the first that do
abbrev pub AnswersShared : List (List Shape) → Option Shared → Type 0
AnswersShared all result = MatchOption result ((i j : ℕ) (ts : List Token) → IsShared all i j ts → ⊥) (IsFirstShared all)

-- of all later forms that share a text with this one it is the first, with some text of both
pub record IsSharedWith (all : List (List Shape)) (i : ℕ) (s : Shared) : Type 0 where
  pub is : s.first ≡ i
  pub tokens : List Token
  pub shared : IsShared all i s.second tokens
  pub text : s.text.items ≡ text_bytes tokens
  pub second : (j : ℕ) (ts : List Token) → IsShared all i j ts → s.second ≤ j

-- no later form shares a text with this one, or this is the first that does
abbrev pub AnswersWith : List (List Shape) → ℕ → Option Shared → Type 0
AnswersWith all i result = MatchOption result ((j : ℕ) (ts : List Token) → IsShared all i j ts → ⊥) (IsSharedWith all i)
