-- The touches of an edge: the cells that it wrote, in the order of its writes, each with its value before that write.
use Rattle.std.specs.Prelude.{ℕ, ◌<◌, ◌^◌, ◌≡◌, List, [], ◌∷◌, ◌++◌, length, slice_index_or, slice_set, All}
use Rattle.lisa_engine.specs.State.{State}
use Rattle.lisa_engine.specs.Shape.{AreEntries}
use Rattle.lisa_engine.specs.Machines.{Machine}
use Rattle.lisa_engine.specs.declared.parts.ArrayItem.{ArrayItem}
use Rattle.lisa_engine.specs.declared.parts.Touch.{Touch}

-- the cells with another value at one place
abbrev pub set_cell : List (List ℕ) → ℕ → ℕ → ℕ → List (List ℕ)
set_cell cells array index value = slice_set cells array (slice_set (slice_index_or cells array []) index value)

-- the cells with the touches' values put back, from the last touch to the first
abbrev pub put_back : List Touch → List (List ℕ) → List (List ℕ)
put_back [] cells = cells
put_back (touch ∷ touches) cells = set_cell (put_back touches cells) touch.array touch.index touch.before

-- the touch's place is there, and its value is within the array's width
pub record IsPlaced (arrays : List ArrayItem) (touch : Touch) : Type 0 where
  pub array : touch.array < length arrays
  pub index : (item : ArrayItem) → touch.index < (slice_index_or arrays touch.array item).depth
  pub value : (item : ArrayItem) → touch.before < 2 ^ (slice_index_or arrays touch.array item).width

-- the touches lead from the cells after an edge to those before it:
-- the first touch of a cell has its value before the edge, and a cell without a touch is unchanged
pub record Tracks (arrays : List ArrayItem) (before after : List (List ℕ)) (touches : List Touch) : Type 0 where
  pub places : All (IsPlaced arrays) touches
  pub back : put_back touches after ≡ before

-- what is kept of one edge leads back over it: the items of the definition's state before the edge, and touches that lead to its cells
pub record LeadsBack (m : Machine) (given : List ℕ) (touches : List Touch) (before : List (List ℕ)) (entry : List ℕ) : Type 0 where
  pub values : given ≡ (m.defined before).items
  pub cells : Tracks m.arrays (m.defined before).cells (m.defined (before ++ entry ∷ [])).cells touches

-- the present state is the definition's after these entries and one more, over which the given items and touches lead back
pub record TakesBack (m : Machine) (present : State) (given : List ℕ) (touches : List Touch) (before : List (List ℕ)) (entry : List ℕ) : Type 0 where
  pub entries : AreEntries m.pins (before ++ entry ∷ [])
  pub now : present ≡ m.defined (before ++ entry ∷ [])
  pub back : LeadsBack m given touches before entry
