-- Cells of arrays, with the touches of an edge.
use Rattle.std.specs.Prelude.{ℕ, ◌≡◌, ◌+◌, ◌≤◌, ◌==◌, ◌&&◌, Bool, List, length, map, All}
use Rattle.std.specs.List.{list_any}
use Rattle.lisa_engine.specs.Shape.{AreCells}
use Rattle.lisa_engine.specs.Touches.{IsPlaced}
use Rattle.lisa_engine.specs.declared.parts.ArrayItem.{ArrayItem}
use Rattle.lisa_engine.specs.declared.parts.Touch.{Touch}
use Rattle.moment_stores.specs.Rows.{mark_at, all_unmarked, all_places}

-- a touch is of the cell
abbrev pub is_touch_of : ℕ → ℕ → Touch → Bool
is_touch_of array index touch = touch.array == array && touch.index == index

abbrev pub is_touched : List Touch → ℕ → ℕ → Bool
is_touched touches array index = list_any (is_touch_of array index) touches

-- Each cell that was touched has its mark, and there is room for the touches of those without one.
pub record AreTracked (arrays : List ArrayItem) (cells : List (List ℕ)) (marks : List (List Bool)) (touches : List Touch) (room : ℕ) : Type 0 where
  pub shape : AreCells arrays cells
  pub placed : All (IsPlaced arrays) touches
  pub same : map length marks ≡ map length cells
  pub marked : (array index : ℕ) → mark_at marks array index ≡ is_touched touches array index
  pub left : length touches + all_unmarked marks ≤ room
  pub most : all_places marks ≤ room
