-- What an edge changed, by its touches.
use Rattle.std.specs.Prelude.{ℕ, ◌<◌, ◌≤◌, ◌≡◌, ◌==◌, ◌&&◌, List, Bool, length, slice_index_or, AllPairs, find}
use Rattle.std.specs.Option.{option_map_or}
use Rattle.std.specs.List.{flat_map, zip, enumerate_from}
use Rattle.lisa_engine.specs.Text.{changed_cell}
use Rattle.lisa_engine.specs.declared.parts.ArrayItem.{ArrayItem}
use Rattle.lisa_engine.specs.declared.parts.Touch.{Touch}

-- the touch is of this cell
abbrev pub is_at : ℕ → ℕ → Touch → Bool
is_at array index touch = touch.array == array && touch.index == index

-- what a cell held before the edge: the value that its first touch has, else its value now
abbrev pub value_before : List Touch → ℕ → ℕ → ℕ → ℕ
value_before touches array index now = option_map_or (λ touch. touch.before) (find (is_at array index) touches) now

-- a line where the cell changed
abbrev pub touched_line : List Touch → List ℕ → ℕ → ℕ × ℕ → List ℕ
touched_line touches name array (index, now) = changed_cell name (index, (value_before touches array index now, now))

abbrev pub touched_array : List Touch → ℕ × (ArrayItem × List ℕ) → List ℕ
touched_array touches (array, (item, cells)) = flat_map (touched_line touches item.name array) (enumerate_from 0 cells)

-- the touches stand by array and index
pub record IsRow (touches : List Touch) : Type 0 where
  pub arrays : AllPairs (λ a b. a.array ≤ b.array) touches
  pub indexes : AllPairs (λ a b. a.array ≡ b.array → a.index ≤ b.index) touches

-- the touches before a place are of earlier arrays, and the others are not
pub record IsCut (touches : List Touch) (array place : ℕ) : Type 0 where
  pub within : place ≤ length touches
  pub before : (k : ℕ) (touch : Touch) → k < place → (slice_index_or touches k touch).array < array
  pub after : (k : ℕ) (touch : Touch) → place ≤ k → k < length touches → array ≤ (slice_index_or touches k touch).array
