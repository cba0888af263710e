-- What holds of items and their places.
use Rattle.std.specs.Prelude.{ℕ, ◌≡◌, List, Option, Some, slice_get}
use Rattle.lisa_tree.specs.Descriptions.{DescriptionTree}
use Rattle.lisa_engine.specs.Memory.{Memory}
use Rattle.lisa_meaning.specs.coding_tables.Instructions.{form_count}
use Rattle.lisa_meaning.specs.instruction_forms.Widths.{HasWidth}
use Rattle.lisa_meaning.specs.description_sizes.Laws.{AreWithinLimits}
use Rattle.item_layouts.specs.declared.place.ItemPlace.{ItemPlace}
use Rattle.item_layouts.specs.Layouts.{item_places, value_at}
use Rattle.pipeline_time.specs.Bits.{shown}
use Rattle.lisa_meaning.specs.Cores.{core_of}
use Rattle.lisa_meaning.specs.States.{layout_of, values_of, after_edges, state_of}

-- The value of each item after any edges is what stands at its place.
abbrev pub ItemsAreAtPlaces : DescriptionTree → Type 0
ItemsAreAtPlaces d =
    (image : List Memory) (entries : List (List ℕ)) (i : ℕ) (p : ItemPlace)
    → slice_get (item_places (layout_of d)) i ≡ Some p
    → slice_get (state_of d image entries).items i ≡ Some (value_at (values_of (shown (core_of d) (after_edges d image entries))) p)

-- All sizes are within their limits.
abbrev pub HasLimits : DescriptionTree → Type 0
HasLimits d = (width : Option ℕ) × HasWidth d width × AreWithinLimits d width (form_count d)
