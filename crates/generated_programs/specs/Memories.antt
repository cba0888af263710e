-- The memory of a program.
use Rattle.std.specs.Prelude.{◌≡◌, ℕ, nat_eq, cond, List, [], ◌∷◌, Option, None, Some}
use Rattle.std.specs.Option.{option_or}
use Rattle.lisa_tree.specs.Descriptions as trees
use Rattle.lisa_tree.specs.Descriptions.{ResourceTree, DescriptionTree}
use Rattle.instruction_forms.specs.Widths.{HasWidth}

-- the name of a memory of this width
abbrev pub memory_name : ℕ → ResourceTree → Option (List ℕ)
memory_name width (trees.Memory word shape name depth) = cond (nat_eq shape.width width) (Some name) None
memory_name width (trees.Register word shape name depth) = None
memory_name width (trees.Clocked word shape name) = None
memory_name width (trees.Pin shape name) = None
memory_name width (trees.Pipeline name stages) = None
memory_name width (trees.Fields pipe fields) = None

-- the first such memory
abbrev pub first_memory : ℕ → List ResourceTree → Option (List ℕ)
first_memory width [] = None
first_memory width (r ∷ rest) = option_or (memory_name width r) (first_memory width rest)

abbrev pub memory_of_width : DescriptionTree → Option ℕ → Option (List ℕ)
memory_of_width d None = None
memory_of_width d (Some width) = first_memory width d.resources

-- the first memory that is as wide as an instruction; none without one, or without instructions
pub record IsProgramMemory (d : DescriptionTree) (found : Option (List ℕ)) : Type 0 where
  pub width : Option ℕ
  pub has_width : HasWidth d width
  pub is : found ≡ memory_of_width d width
