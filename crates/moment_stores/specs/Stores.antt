-- What a store holds.
use Rattle.std.specs.Prelude.{ℕ, ◌≡◌, List, drop, reverse, take}
use Rattle.std.specs.Vec.{vec_len, vec_capacity}
use Rattle.lisa_tree.specs.Descriptions.{DescriptionTree, description_tree}
use Rattle.lisa_engine.specs.Memory.{Memory}
use Rattle.lisa_engine.specs.Touches.{put_back}
use Rattle.lisa_engine.specs.declared.parts.Touch.{Touch}
use Rattle.typed_values.specs.Effects.{Locals}
use Rattle.lisa_meaning.specs.Moments.{Contents, Moment}
use Rattle.moment_stores.specs.Rows.{rows}
use Rattle.moment_stores.specs.Locals.{local_pairs}
use Rattle.moment_stores.specs.declared.store.Store.{Store}

-- the description whose machine it is
abbrev pub description_of : Store → DescriptionTree
description_of store = description_tree store.machine.now

-- the image that it began with
abbrev pub image_of : Store → List Memory
image_of store = store.image.now

-- what lasts from edge to edge
abbrev pub memory_of : Store → Contents
memory_of store = record { registers = store.registers.items; cells = rows store.cells.values.items; fields = rows store.boundaries.fields.items }

-- the moment of an edge
abbrev pub moment_of : Store → Moment
moment_of store = record {
  memory = memory_of store;
  kept = store.kept.items;
  pins = store.pins.items;
  outs = rows store.boundaries.outs.items;
  stalled = reverse store.stalled.noted.items;
  flushed = reverse store.flushed.noted.items;
  locals = local_pairs (drop store.locals.base store.locals.all.items);
}

-- ---- beside the moment

-- the locals that aren't in scope: those of callers, the oldest first
abbrev pub outer_locals : Store → Locals
outer_locals store = local_pairs (take store.locals.base store.locals.all.items)

-- all locals, in scope or not; and for how many there is room
abbrev pub local_count : Store → ℕ
local_count store = vec_len store.locals.all

abbrev pub local_room : Store → ℕ
local_room store = vec_capacity store.locals.all

-- the cells as the edge began
abbrev pub cells_before : Store → List (List ℕ)
cells_before store = put_back store.cells.touches.items (rows store.cells.values.items)

abbrev pub touches_of : Store → List Touch
touches_of store = store.cells.touches.items

-- ---- what stays

-- whatever is done
pub record KeepsMachine (old new : Store) : Type 0 where
  pub description : description_of new ≡ description_of old
  pub image : image_of new ≡ image_of old
  pub room : local_room new ≡ local_room old

-- inside of an edge
pub record KeepsPlace (old new : Store) : Type 0 where
  pub machine : KeepsMachine old new
  pub before : cells_before new ≡ cells_before old

-- inside of a body
pub record Keeps (old new : Store) : Type 0 where
  pub place : KeepsPlace old new
  pub outer : outer_locals new ≡ outer_locals old
