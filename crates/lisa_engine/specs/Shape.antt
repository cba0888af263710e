-- The shape of states and of pin values: how many values there are, and how wide.
use Rattle.std.specs.Prelude.{ℕ, ◌<◌, ◌≤◌, ◌^◌, ◌≡◌, ◌≢◌, List, [], length, slice_index, slice_index_or, All, AllPairs}
use Rattle.lisa_engine.specs.State.{State}
use Rattle.lisa_engine.specs.declared.parts.Item.{Item}
use Rattle.lisa_engine.specs.declared.parts.ArrayItem.{ArrayItem}

-- one value for each item, within its width
pub record IsFitting (items : List Item) (values : List ℕ) : Type 0 where
  pub count : length values ≡ length items
  pub within : (k : ℕ) (item : Item) → k < length items → slice_index values k < 2 ^ (slice_index_or items k item).width

-- for each array as many cells as it is deep, within its width
pub record AreCells (arrays : List ArrayItem) (cells : List (List ℕ)) : Type 0 where
  pub count : length cells ≡ length arrays
  pub depths : (k : ℕ) (array : ArrayItem) → k < length arrays → length (slice_index_or cells k []) ≡ (slice_index_or arrays k array).depth
  pub within : (k j : ℕ) (array : ArrayItem) → k < length arrays → j < length (slice_index_or cells k [])
      → slice_index (slice_index_or cells k []) j < 2 ^ (slice_index_or arrays k array).width

pub record IsShaped (items : List Item) (arrays : List ArrayItem) (state : State) : Type 0 where
  pub values : IsFitting items state.items
  pub cells : AreCells arrays state.cells

-- a list of pin values, an entry for each edge
abbrev pub AreEntries : List Item → List (List ℕ) → Type 0
AreEntries pins entries = All (IsFitting pins) entries

-- a width of one word
abbrev pub IsWidth : ℕ → Type 0
IsWidth width = (1 ≤ width) × (width ≤ 64)

-- items, cells of arrays and pins have from 1 to 64 bits
pub record HaveWidths (items : List Item) (arrays : List ArrayItem) (pins : List Item) : Type 0 where
  pub of_items : All (λ item. IsWidth item.width) items
  pub of_arrays : All (λ array. IsWidth array.width) arrays
  pub of_pins : All (λ pin. IsWidth pin.width) pins

-- no two items share a name, nor two arrays, nor two pins
pub record HaveDistinctNames (items : List Item) (arrays : List ArrayItem) (pins : List Item) : Type 0 where
  pub of_items : AllPairs (λ a b. a.name ≢ b.name) items
  pub of_arrays : AllPairs (λ a b. a.name ≢ b.name) arrays
  pub of_pins : AllPairs (λ a b. a.name ≢ b.name) pins
