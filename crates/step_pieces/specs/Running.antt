-- What pieces do, and what they leave as it was.
use Rattle.std.specs.Prelude.{◌≡◌, ℕ, ◌<◌, List, length, fold, slice_index, ⊤}
use Rattle.step_program.specs.Programs.{Program, Expr, Const, Now, Before, Pin, Temp, Cell, One, Two, Choose, Move}
use Rattle.step_program.specs.Effects.{Moment, effect}

-- what holds after steps
abbrev pub ran : Program → (before pins : List ℕ) → Moment → List Move → Moment
ran p before pins now moves = fold (effect p before pins) now moves

-- from one moment to another all is as it was but temps from `from` on
pub record Rests (from : ℕ) (a b : Moment) : Type 0 where
  pub items : b.items ≡ a.items
  pub cells : b.cells ≡ a.cells
  pub room : length b.temps ≡ length a.temps
  pub temps : (k : ℕ) → k < from → slice_index b.temps k ≡ slice_index a.temps k

-- a leaf that reads no temp from `from` on
abbrev pub IsLow : ℕ → Expr → Type 0
IsLow from (Const width v) = ⊤
IsLow from (Now item) = ⊤
IsLow from (Before item) = ⊤
IsLow from (Pin pin) = ⊤
IsLow from (Temp temp) = temp < from
IsLow from (Cell array index) = ⊥
IsLow from (One one a) = ⊥
IsLow from (Two two a b) = ⊥
IsLow from (Choose test this other) = ⊥

-- the moment has a value for each temp of the program
abbrev pub HasTemps : Program → Moment → Type 0
HasTemps p now = length now.temps ≡ length p.temps
