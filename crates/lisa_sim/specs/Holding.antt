-- Items that fit the registers and fields at their places, and are put there.
use Rattle.std.specs.Prelude.{ℕ, ◌≡◌, ◌<◌, ◌^◌, List, Some, length, slice_get, slice_index, slice_index_or}
use Rattle.lisa_tree.specs.declared.tokens.Shape.{Shape}
use Rattle.lisa_tree.specs.Descriptions.{DescriptionTree}
use Rattle.lisa_engine.specs.declared.parts.Item.{Item}
use Rattle.machine_parts.specs.Parts.{registers_of}
use Rattle.item_layouts.specs.declared.place.ItemPlace.{ItemPlace}
use Rattle.item_layouts.specs.declared.place.ItemPlace.TheVariants.{Register, Field, Word, Bit}
use Rattle.activation_plans.specs.lisa_meaning.Moments.{Contents}
use Rattle.activation_plans.specs.lisa_meaning.Values.{shape_at}
use Rattle.behavior_runs.specs.moment_stores.Changes.{with_register, with_field}

-- bits within the width of the register or field at a place
abbrev pub CanTake : DescriptionTree → ItemPlace → ℕ → Type 0
CanTake d (Register k) bits = (item : Item) → k < length (registers_of d) → bits < 2 ^ (slice_index_or (registers_of d) k item).width
CanTake d (Field s f) bits = (shape : Shape) → shape_at d f ≡ Some shape → bits < 2 ^ shape.width
CanTake d (Word s) bits = Unit {0}
CanTake d (Bit s k) bits = Unit {0}

-- items within the widths at their places
abbrev pub CanHold : DescriptionTree → List ItemPlace → List ℕ → Type 0
CanHold d places items = (i : ℕ) (p : ItemPlace) → slice_get places i ≡ Some p → CanTake d p (slice_index items i)

-- bits in the register or field at a place; words and what stands in stages are no part of it
abbrev pub with_item : ItemPlace → ℕ → Contents → Contents
with_item (Register k) bits c = with_register k bits c
with_item (Field s f) bits c = with_field s f bits c
with_item (Word s) bits c = c
with_item (Bit s k) bits c = c
