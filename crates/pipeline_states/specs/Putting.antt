-- Items that are put into registers and fields.
use Rattle.std.specs.Prelude.{ℕ, ◌≡◌, ◌<◌, List, [], Some, length, map, slice_get, slice_index_or}
use Rattle.lisa_tree.specs.Descriptions.{DescriptionTree}
use Rattle.item_layouts.specs.declared.place.ItemPlace.{ItemPlace}
use Rattle.item_layouts.specs.declared.place.ItemPlace.TheVariants.{Register, Field}
use Rattle.item_layouts.specs.Layouts.{ItemValues, item_places}
use Rattle.pipeline_time.specs.Bits.{Hardware}
use Rattle.lisa_meaning.specs.Moments.{Contents, field_at}
use Rattle.lisa_meaning.specs.States.{layout_of, values_of}
use Rattle.lisa_meaning.specs.Showing.{HasItems}

-- registers and fields at the first of the places have these values, and all else is as it was
pub record IsPut (places : List ItemPlace) (v : ItemValues) (count : ℕ) (old new : Contents) : Type 0 where
  pub registers : length new.registers ≡ length old.registers
  pub registers_are : (i k : ℕ) → i < count → slice_get places i ≡ Some (Register k) → k < length old.registers → slice_index_or new.registers k 0 ≡ v.register k
  pub fields : map length new.fields ≡ map length old.fields
  pub fields_are : (i s f : ℕ) → i < count → slice_get places i ≡ Some (Field s f) → s < length old.fields → f < length (slice_index_or old.fields s []) → field_at new.fields s f ≡ v.field s f
  pub cells : new.cells ≡ old.cells

-- Once all items of a state are put, registers and fields are those of the state.
abbrev pub PutItemsAreHeld : DescriptionTree → Type 0
PutItemsAreHeld d =
    (before hard : Hardware Contents) (new : Contents)
    → HasItems d before
    → HasItems d hard
    → IsPut (item_places (layout_of d)) (values_of hard) (length (item_places (layout_of d))) before.memory new
    → (new.registers ≡ hard.memory.registers) × (new.fields ≡ hard.memory.fields)
