-- What holds of expressions that are lowered.
use Rattle.std.specs.Prelude.{ℕ, List, All}
use Rattle.lisa_tree.specs.Expressions.{ExprTree}
use Rattle.step_program.specs.Programs.{Program}
use Rattle.step_program.specs.Effects.{Moment}
use Rattle.typed_values.specs.Expressions.{Reader, value}
use Rattle.step_pieces.specs.Pieces.{IsScratch}
use Rattle.step_pieces.specs.Running.{HasTemps}
use Rattle.step_pieces.specs.Formed.{Lies}
use Rattle.lowered_values.specs.Sources.{Sources, AreSources, Mirrors}
use Rattle.lowered_values.specs.Computed.{computed, Computes, IsComputed}

abbrev pub ExpressionsCompute : Program → (before pins : List ℕ) → Type 0
ExpressionsCompute p before pins =
    (s : Sources) (reader : Reader) (e : ExprTree) (from : ℕ) (now : Moment)
    → AreSources p from s e → Mirrors p before pins now s reader e → HasTemps p now → Lies p.temps from (computed s from e).piece.widths
    → Computes p before pins from (computed s from e) (value reader e) now

abbrev pub ExpressionsAreScratch : Sources → Type 0
ExpressionsAreScratch s = (from : ℕ) (e : ExprTree) → All (λ m. IsScratch from m.aim) (computed s from e).piece.moves

abbrev pub ExpressionsAreFormed : Program → Type 0
ExpressionsAreFormed p =
    (s : Sources) (e : ExprTree) (from : ℕ) → AreSources p from s e → Lies p.temps from (computed s from e).piece.widths → IsComputed p from (computed s from e)
