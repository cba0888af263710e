-- Pieces of a step program: steps, and the temps that they take for themselves. On the way to a program: nothing here needs to be trusted.
use Rattle.std.specs.Prelude.{ℕ, ◌+◌, ◌≤◌, List, [], ◌∷◌, ◌++◌, length}
use Rattle.step_program.specs.Programs.{Expr, Const, Aim, ToItem, ToTemp, ToCell, Move}

pub record Piece : Type 0 where
  -- of the temps that it takes, from a base on
  pub widths : List ℕ
  pub moves : List Move

-- a piece by the number of its first temp
abbrev pub Builder : Type 0
Builder = ℕ → Piece

abbrev pub nothing : Piece
nothing = record { widths = []; moves = [] }

-- one piece behind another, whose base is behind the first one's temps
abbrev pub behind : Piece → Piece → Piece
behind a b = record { widths = a.widths ++ b.widths; moves = a.moves ++ b.moves }

-- the first temp behind those of a piece
abbrev pub top : ℕ → Piece → ℕ
top from a = from + length a.widths

abbrev pub followed : Builder → Builder → Builder
followed f g from = behind (f from) (g (top from (f from)))

-- a step that is always taken
abbrev pub always : Expr
always = Const 1 1

abbrev pub set_temp : (temp : ℕ) → Expr → Move
set_temp temp e = record { guard = always; aim = ToTemp temp; value = e }

-- one temp more, behind the others, that holds an expression
abbrev pub held : ℕ → Piece → (width : ℕ) → Expr → Piece
held from a width e = behind a (record { widths = width ∷ []; moves = set_temp (top from a) e ∷ [] })

-- the temps of a piece last no longer than it runs: a step that gives a value to one of them, or to one of a later piece
abbrev pub IsScratch : ℕ → Aim → Type 0
IsScratch from (ToItem item) = ⊥
IsScratch from (ToTemp temp) = from ≤ temp
IsScratch from (ToCell array index) = ⊥
