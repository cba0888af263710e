-- What holds of the parts of every description.
use Rattle.std.specs.Prelude.{◌≡◌, ◌≤◌, length, List, All}
use Rattle.lisa_tree.specs.Descriptions.{DescriptionTree}
use Rattle.lisa_engine.specs.declared.parts.Item.{Item}
use Rattle.lisa_engine.specs.Shape.{IsFitting}
use Rattle.machine_parts.specs.Parts.{arrays_of, memories_of, registers_of, first_values}

-- a width that words have
pub record HasWidth (i : Item) : Type 0 where
  pub least : 1 ≤ i.width
  pub most : i.width ≤ 64

abbrev pub HaveWidths : List Item → Type 0
HaveWidths items = All HasWidth items

-- each array is told to be a memory or none
abbrev pub ArraysAreTold : DescriptionTree → Type 0
ArraysAreTold d = length (memories_of d) ≡ length (arrays_of d)

-- there is a first value for each register
abbrev pub RegistersHaveFirsts : DescriptionTree → Type 0
RegistersHaveFirsts d = length (first_values d) ≡ length (registers_of d)

-- and each is within its register's width, where the registers have widths that words have
abbrev pub FirstsFit : DescriptionTree → Type 0
FirstsFit d = HaveWidths (registers_of d) → IsFitting (registers_of d) (first_values d)
