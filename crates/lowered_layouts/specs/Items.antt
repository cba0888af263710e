-- Where bits, words and fields stand among the items. On the way to the program: nothing here needs to be trusted.
use Rattle.std.specs.Prelude.{ℕ, zero, suc, ◌≡◌, Option, None, Some, length}
use Rattle.std.specs.Option.{unwrap_or}
use Rattle.lisa_tree.specs.Descriptions.{DescriptionTree}
use Rattle.machine_parts.specs.Parts.{arrays_of, pins_of}
use Rattle.lowered_words.specs.instruction_forms.Widths.{HasWidth}
use Rattle.state_items.specs.description_sizes.Sizes as sizes
use Rattle.item_layouts.specs.declared.place.ItemPlace.TheVariants.{Field, Word, Bit}
use Rattle.item_layouts.specs.Layouts.{place_of}
use Rattle.step_program.specs.Programs.{Program}
use Rattle.step_pieces.specs.Formed.{Lies}
use Rattle.state_items.specs.lisa_meaning.States.{layout_of}
use Rattle.lowered_time.specs.Building.{Layout}
use Rattle.lowered_resources.specs.Places.{Places}
use Rattle.lowered_words.specs.Rows.{IsWordWidth}
use Rattle.lowered_layouts.specs.Temps.{temp, lasting_widths}

-- a stage's level is one more than its number
abbrev pub bit_place : DescriptionTree → ℕ → ℕ → Option ℕ
bit_place d zero k = None
bit_place d (suc s) k = place_of (layout_of d) (Bit s k)

abbrev pub word_place : DescriptionTree → ℕ → Option ℕ
word_place d zero = None
word_place d (suc s) = place_of (layout_of d) (Word s)

abbrev pub field_place : DescriptionTree → ℕ → ℕ → ℕ
field_place d s f = unwrap_or (place_of (layout_of d) (Field s f)) 0

abbrev pub time_layout : DescriptionTree → (width : ℕ) → Layout
time_layout d width = record { bit = bit_place d; word = word_place d; width = width; lasting = length (lasting_widths d width) }

abbrev pub places_of : DescriptionTree → Places
places_of d = record { field = field_place d; temp = temp d }

-- The items, arrays and pins of a program are the description's, whose instructions have this width if there are any, and its temps begin
-- with those that last.
pub record IsArranged (d : DescriptionTree) (declared : Option ℕ) (width : ℕ) (p : Program) : Type 0 where
  pub items : p.items ≡ sizes.items d declared
  pub arrays : p.arrays ≡ arrays_of d
  pub pins : p.pins ≡ pins_of d
  pub temps : Lies p.temps 0 (lasting_widths d width)
  pub has_width : HasWidth d declared
  pub words : IsWordWidth d width
  pub of_declared : (w : ℕ) → declared ≡ Some w → w ≡ width
