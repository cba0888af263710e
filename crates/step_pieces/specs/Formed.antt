-- When pieces are well formed.
use Rattle.std.specs.Prelude.{◌≡◌, ℕ, ◌+◌, ◌<◌, ◌≤◌, List, length, slice_index, All}
use Rattle.step_program.specs.Programs.{Program, Expr, Move}
use Rattle.step_program.specs.Effects.{width}
use Rattle.step_program.specs.WellFormed.{IsWidth, IsFit, IsMove}
use Rattle.step_program.specs.Depths.{move_depth}
use Rattle.step_pieces.specs.Pieces.{Piece}
use Rattle.step_pieces.specs.Running.{IsLow}

-- temps of these widths stand in a program from `from` on
pub record Lies (temps : List ℕ) (from : ℕ) (widths : List ℕ) : Type 0 where
  pub room : from + length widths ≤ length temps
  pub at : (k : ℕ) → k < length widths → slice_index temps (from + k) ≡ slice_index widths k

-- a step of a well-formed program, of little depth
pub record IsStep (p : Program) (move : Move) : Type 0 where
  pub formed : IsMove p move
  pub shallow : move_depth move ≤ 8

-- the steps of a piece are those of any program in which its temps lie
pub record IsPiece (p : Program) (a : Piece) : Type 0 where
  pub widths : All IsWidth a.widths
  pub steps : All (IsStep p) a.moves

-- a guard is one bit, and reads no temp from `from` on
pub record IsGuard (p : Program) (from : ℕ) (guard : Expr) : Type 0 where
  pub fits : IsFit p guard
  pub low : IsLow from guard
  pub wide : width p guard ≡ 1
