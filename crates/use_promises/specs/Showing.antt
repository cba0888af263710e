-- The lists of what a machine shows.
use Rattle.std.specs.Prelude.{ℕ, List, ◌++◌, map}
use Rattle.std.specs.List.{AllByRecursion}
use Rattle.lisa_tree.specs.Descriptions.{DescriptionTree}
use Rattle.lisa_machine.specs.lisa_engine.declared.parts.Item.{Item}
use Rattle.lisa_machine.specs.lisa_engine.declared.parts.ArrayItem.{ArrayItem}
use Rattle.lisa_machine.specs.machine_parts.Parts.{arrays_of, pins_of, registers_of}
use Rattle.lisa_machine.specs.Distinctness.{AreDistinct}
use Rattle.lisa_machine.specs.Resolving.{IsWidth, IsDepth}

abbrev pub FitsArray : ArrayItem → Type 0
FitsArray a = IsWidth a.width × IsDepth a.depth

abbrev pub FitsItem : Item → Type 0
FitsItem i = IsWidth i.width

-- the names of all arrays, pins and registers
abbrev pub shown_names : DescriptionTree → List (List ℕ)
shown_names d = map (λ a. a.name) (arrays_of d) ++ (map (λ i. i.name) (pins_of d) ++ map (λ i. i.name) (registers_of d))

-- names are different, widths are from 1 to 64, and depths powers of two from 2 to 1,048,576
pub record FitsShown (d : DescriptionTree) : Type 0 where
  pub arrays : AllByRecursion FitsArray (arrays_of d)
  pub pins : AllByRecursion FitsItem (pins_of d)
  pub registers : AllByRecursion FitsItem (registers_of d)
  pub names : AreDistinct (shown_names d)
