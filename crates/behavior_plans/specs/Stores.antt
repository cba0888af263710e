-- What a store stands for, and what runs leave in it.
use Rattle.std.specs.Prelude.{ℕ, ◌+◌, ◌<◌, ◌≤◌, ◌≡◌, List, All, length, map, take, slice_index_or}
use Rattle.lisa_engine.specs.Touches.{put_back}
use Rattle.lisa_engine.specs.declared.parts.Touch.{Touch}
use Rattle.typed_values.specs.Words.{typed_word}
use Rattle.behavior_plans.specs.Holdings.{Holdings}
use Rattle.behavior_plans.specs.declared.store.Store.{Store}

abbrev pub cells_of : Store → List (List ℕ)
cells_of store = map (λ row. row.items) store.cells.items

abbrev pub holdings_of : Store → Holdings
holdings_of store = record {
  registers = map typed_word store.registers.items;
  kept = map typed_word store.kept.items;
  pins = map typed_word store.pins.items;
  slots = map typed_word store.slots.items;
  cells = cells_of store;
  decoded = store.decoded;
  fields = store.fields.items;
  outs = store.outs.items;
  stalled = store.stalled.items;
  flushed = store.flushed.items;
}

-- the touches noted so far
abbrev pub touches_of : Store → List Touch
touches_of store = take store.count store.touched.items

-- the cells before the touches
abbrev pub untouched : Store → List (List ℕ)
untouched store = put_back (touches_of store) (cells_of store)

-- how many cells each array has
abbrev pub sizes_of : Store → List ℕ
sizes_of store = map length (cells_of store)

-- the cell of a touch, in arrays with so many cells
pub record IsThere (sizes : List ℕ) (touch : Touch) : Type 0 where
  pub array : touch.array < length sizes
  pub index : touch.index < slice_index_or sizes touch.array 0

abbrev pub AreThere : Store → Type 0
AreThere store = All (IsThere (sizes_of store)) (touches_of store)

-- What a run leaves in a store, with at most so many touches more. Where there is room for them, each write of a cell has its touch.
pub record Leaves (old new : Store) (after : Holdings) (writes : ℕ) : Type 0 where
  pub holdings : holdings_of new ≡ after
  pub untouched_same : old.count + writes ≤ length old.touched.items → untouched new ≡ untouched old
  pub touches : new.count ≤ old.count + writes
  pub room : length new.touched.items ≡ length old.touched.items
  -- touches are of cells that are there
  pub places : AreThere old → AreThere new
