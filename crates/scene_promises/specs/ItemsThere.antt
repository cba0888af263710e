-- Which item stands at a place.
use Rattle.std.specs.Prelude.{ℕ, ◌≡◌, ◌+◌, List, Option, None, Some, slice_get}
use Rattle.lisa_tree.specs.declared.tokens.Shape.{Shape}
use Rattle.lisa_tree.specs.Descriptions.{DescriptionTree}
use Rattle.lisa_tree.specs.Resources.{stages, fields}
use Rattle.lisa_engine.specs.declared.parts.Item.{Item}
use Rattle.machine_parts.specs.Parts.{registers_of}
use Rattle.activation_trees.specs.declared.parts.Occurrence.{Occurrence}
use Rattle.activation_trees.specs.Unfolding.{occurrences}
use Rattle.activation_trees.specs.Items.{field_item, word_item, bit_item}
use Rattle.description_sizes.specs.Sizes.{items}
use Rattle.item_layouts.specs.declared.place.ItemPlace.{ItemPlace}
use Rattle.item_layouts.specs.declared.place.ItemPlace.TheVariants.{Register, Field, Word, Bit}

-- a field of the boundary between two stages: `A/B.f`, with the field's width
abbrev pub field_between : Option (List ℕ) → Option (List ℕ) → Option (Shape × List ℕ) → Option Item
field_between (Some before) (Some after) (Some field) = Some (field_item before after field)
field_between _ _ _ = None

-- the word of a stage: `S.word`, with the width of instructions
abbrev pub word_of : Option ℕ → Option (List ℕ) → Option Item
word_of (Some width) (Some stage) = Some (word_item width stage)
word_of _ _ = None

-- the bit of an occurrence in a stage: `S.operation.k`, with the width 1
abbrev pub bit_of : DescriptionTree → ℕ → Option (List ℕ) → Option Occurrence → Option Item
bit_of d k (Some stage) (Some x) = Some (bit_item d stage x k)
bit_of d k _ _ = None

abbrev pub item_of : DescriptionTree → Option ℕ → ItemPlace → Option Item
item_of d width (Register k) = slice_get (registers_of d) k
item_of d width (Field b f) = field_between (slice_get (stages d) b) (slice_get (stages d) (b + 1)) (slice_get (fields d) f)
item_of d width (Word s) = word_of width (slice_get (stages d) s)
item_of d width (Bit s k) = bit_of d k (slice_get (stages d) s) (slice_get (occurrences d) k)

-- the item of this number is that of the place
pub record HasItem (d : DescriptionTree) (width : Option ℕ) (i : ℕ) (p : ItemPlace) : Type 0 where
  pub item : Item
  pub is : item_of d width p ≡ Some item
  pub stands : slice_get (items d width) i ≡ Some item
