-- Operands of a step program that stand for values of behaviours. On the way to the program: nothing here needs to be trusted.
use Rattle.std.specs.Prelude.{◌≡◌, ℕ, ◌≤◌, List}
use Rattle.lisa_words.specs.declared.words.Kind.{Kind}
use Rattle.step_program.specs.Programs.{Expr, Program}
use Rattle.step_program.specs.Effects.{Moment, value}
use Rattle.step_program.specs.Effects as effects
use Rattle.step_program.specs.WellFormed.{IsWidth, IsFit}
use Rattle.step_program.specs.Depths.{expr_depth}
use Rattle.typed_values.specs.Words.{TypedWord}
use Rattle.typed_values.specs.Laws as typed
use Rattle.step_pieces.specs.Running.{IsLow}

-- an expression of the program, with the type of its value
pub record Operand : Type 0 where
  pub at : Expr
  pub kind : Kind
  pub width : ℕ

abbrev pub operand_of : Kind → ℕ → Expr → Operand
operand_of kind width at = record { at = at; kind = kind; width = width }

-- at a moment of an edge the operand has the value, which fits its width
pub record StandsFor (p : Program) (before pins : List ℕ) (now : Moment) (x : Operand) (v : TypedWord) : Type 0 where
  pub kind : x.kind ≡ v.kind
  pub width : x.width ≡ v.width
  pub wide : effects.width p x.at ≡ v.width
  pub bits : value p before pins now x.at ≡ v.bits
  pub fits : typed.IsFit v

-- a well-formed leaf, that reads no temp from `from` on
pub record IsOperand (p : Program) (from : ℕ) (x : Operand) : Type 0 where
  pub fits : IsFit p x.at
  pub low : IsLow from x.at
  pub wide : effects.width p x.at ≡ x.width
  pub sized : IsWidth x.width

-- a well-formed expression, of little depth
pub record IsFormula (p : Program) (depth : ℕ) (x : Operand) : Type 0 where
  pub fits : IsFit p x.at
  pub wide : effects.width p x.at ≡ x.width
  pub sized : IsWidth x.width
  pub shallow : expr_depth x.at ≤ depth
