-- What items and cells show of a state: all of it.
use Rattle.std.specs.Prelude.{ℕ, suc, ◌≡◌, ◌≢◌, true, List, None, length}
use Rattle.lisa_tree.specs.Descriptions.{DescriptionTree}
use Rattle.lisa_engine.specs.Memory.{Memory}
use Rattle.lisa_engine.specs.Images.{IsImage, missing_memory}
use Rattle.use_promises.specs.machine_parts.Parts.{arrays_of, registers_of}
use Rattle.item_layouts.specs.declared.place.ItemPlace.TheVariants.{Bit, Word}
use Rattle.item_layouts.specs.Layouts.{HasPlace}
use Rattle.pipeline_time.specs.Bits.{Hardware, shown}
use Rattle.lisa_meaning.specs.Moments.{Contents, field_at, by_boundaries}
use Rattle.lisa_meaning.specs.Cores.{core_of}
use Rattle.lisa_meaning.specs.States.{layout_of, after_edges, shown_state}

-- There are as many registers and fields as items of them, and each bit that is set and each word that isn't 0 has an item.
pub record HasItems (d : DescriptionTree) (hard : Hardware Contents) : Type 0 where
  pub registers : length hard.memory.registers ≡ length (registers_of d)
  pub fields : hard.memory.fields ≡ by_boundaries d (field_at hard.memory.fields)
  pub bits : (level k : ℕ) → hard.bits level k ≡ true → (s : ℕ) × (level ≡ suc s) × HasPlace (layout_of d) (Bit s k)
  pub words : (level : ℕ) → hard.words level ≢ 0 → (s : ℕ) × (level ≡ suc s) × HasPlace (layout_of d) (Word s)

-- So it is after any edges.
abbrev pub EdgesHaveItems : DescriptionTree → Type 0
EdgesHaveItems d =
    (image : List Memory) (entries : List (List ℕ))
    → IsImage image
    → missing_memory (arrays_of d) image ≡ None
    → HasItems d (shown (core_of d) (after_edges d image entries))

-- Where items and cells are the same, so is all else.
abbrev pub ItemsShowAll : DescriptionTree → Type 0
ItemsShowAll d = (a b : Hardware Contents) → HasItems d a → HasItems d b → shown_state d a ≡ shown_state d b → a ≡ b
