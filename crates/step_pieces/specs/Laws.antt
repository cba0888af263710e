-- What holds of pieces.
use Rattle.std.specs.Prelude.{◌≡◌, ℕ, ◌<◌, ◌≤◌, List, [], ◌∷◌, length, All}
use Rattle.step_program.specs.Programs.{Program, Expr, Temp, Move}
use Rattle.step_program.specs.Effects.{Moment, value, width}
use Rattle.step_program.specs.WellFormed.{IsWidth, IsFit}
use Rattle.step_program.specs.Depths.{expr_depth}
use Rattle.step_pieces.specs.Pieces.{Piece, behind, set_temp, held, IsScratch}
use Rattle.step_pieces.specs.Running.{ran, Rests, IsLow}
use Rattle.step_pieces.specs.Formed.{Lies, IsPiece}

abbrev pub PiecesFollow : Program → (before pins : List ℕ) → Type 0
PiecesFollow p before pins = (now : Moment) (a b : Piece) → ran p before pins now (behind a b).moves ≡ ran p before pins (ran p before pins now a.moves) b.moves

abbrev pub ScratchRests : Program → (before pins : List ℕ) → Type 0
ScratchRests p before pins =
    (from : ℕ) (moves : List Move) (now : Moment) → All (λ m. IsScratch from m.aim) moves → Rests from now (ran p before pins now moves)

abbrev pub LeavesLast : Program → (before pins : List ℕ) → Type 0
LeavesLast p before pins =
    (from : ℕ) (e : Expr) (a b : Moment) → IsLow from e → Rests from a b → value p before pins b e ≡ value p before pins a e

abbrev pub TempsHold : Program → (before pins : List ℕ) → Type 0
TempsHold p before pins =
    (temp : ℕ) (e : Expr) (now : Moment) → temp < length now.temps → value p before pins (ran p before pins now (set_temp temp e ∷ [])) (Temp temp) ≡ value p before pins now e

abbrev pub TempsRest : Program → (before pins : List ℕ) → Type 0
TempsRest p before pins = (temp : ℕ) (e : Expr) (now : Moment) → Rests temp now (ran p before pins now (set_temp temp e ∷ []))

abbrev pub PiecesAreFormed : Program → Type 0
PiecesAreFormed p =
    (from : ℕ) (a : Piece) (w : ℕ) (e : Expr) → IsPiece p a → Lies p.temps from (held from a w e).widths → IsWidth w
    → IsFit p e → width p e ≡ w → expr_depth e ≤ 8 → IsPiece p (held from a w e)
