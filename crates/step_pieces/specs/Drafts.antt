-- What the code's drafts and leaves stand for.
use Rattle.std.specs.Prelude.{ℕ, [], ◌∷◌, map}
use Rattle.step_program.specs.Programs.{Expr, Const, Now, Before, Pin, Temp, Aim, Move, move_of}
use Rattle.step_pieces.specs.declared.leaves.Leaf.{Leaf}
use Rattle.step_pieces.specs.declared.leaves.Leaf.TheVariants as leaves
use Rattle.step_pieces.specs.declared.drafts.Draft.{Draft}
use Rattle.step_pieces.specs.Pieces.{Piece}

abbrev pub leaf_tree : Leaf → Expr
leaf_tree (leaves.Const word) = Const word.width word.bits
leaf_tree (leaves.Item item) = Now item
leaf_tree (leaves.Before item) = Before item
leaf_tree (leaves.Pin pin) = Pin pin
leaf_tree (leaves.Temp temp) = Temp temp

-- what has been drafted
abbrev pub piece_of : Draft → Piece
piece_of draft = record { widths = draft.temps.items; moves = map move_of draft.steps.items }

-- one step, without temps
abbrev pub one_step : Move → Piece
one_step move = record { widths = []; moves = move ∷ [] }

abbrev pub move : (guard : Expr) → Aim → (value : Expr) → Move
move guard aim value = record { guard = guard; aim = aim; value = value }

-- a temp that no step gives a value
abbrev pub one_temp : (width : ℕ) → Piece
one_temp width = record { widths = width ∷ []; moves = [] }
