-- Pieces of a step program: steps, with the temps that they take. On the way to the program: nothing here needs to be trusted.
use Rattle.std.specs.Prelude.{ℕ, ◌+◌, List, [], ◌∷◌, length}
use Rattle.step_program.specs.declared.expressions.TwoOp.TheVariants as ops
use Rattle.step_program.specs.Programs.{Expr, Const, Temp, Two, Aim, ToTemp, Move}
use Rattle.step_pieces.specs.Pieces.{Piece, Builder, behind, always}

-- a piece with the value that it makes
pub record Made : Type 0 where
  pub piece : Piece
  pub out : Expr

abbrev pub Maker : Type 0
Maker = ℕ → Made

abbrev pub nothing : Builder
nothing from = record { widths = []; moves = [] }

abbrev pub steps : List Move → Builder
steps moves from = record { widths = []; moves = moves }

-- one after the other
abbrev pub chain : Builder → Builder → Builder
chain first second from = behind (first from) (second (from + length (first from).widths))

-- what is made, and then what uses it
abbrev pub bind : Maker → (Expr → Builder) → Builder
bind maker user from = behind (maker from).piece (user (maker from).out (from + length (maker from).piece.widths))

abbrev pub given : Expr → Aim → Expr → Move
given guard aim value = record { guard = guard; aim = aim; value = value }

-- one temp more, which holds a value
abbrev pub holding : ℕ → Expr → Maker
holding width e from = record { piece = record { widths = width ∷ []; moves = given always (ToTemp from) e ∷ [] }; out = Temp from }

abbrev pub both : Expr → Expr → Expr
both x y = Two ops.And x y

abbrev pub either : Expr → Expr → Expr
either x y = Two ops.Or x y

-- of one bit
abbrev pub none : Expr → Expr
none x = Two ops.Equal x (Const 1 0)
