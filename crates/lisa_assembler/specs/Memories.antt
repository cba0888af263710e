-- The memories of a description.
use Rattle.std.specs.Prelude.{ℕ, Bool, true, false, List, [], ◌∷◌, Option, find}
use Rattle.std.specs.Str.{bytes_eq}
use Rattle.lisa_tree.specs.Descriptions.{DescriptionTree}
use Rattle.lisa_engine.specs.declared.parts.ArrayItem.{ArrayItem}
use Rattle.lisa_syntax.specs.machine_parts.Parts.{arrays_of, memories_of}

-- those of the arrays that are marked
abbrev pub marked : List ArrayItem → List Bool → List ArrayItem
marked (a ∷ arrays) (true ∷ marks) = a ∷ marked arrays marks
marked (a ∷ arrays) (false ∷ marks) = marked arrays marks
marked _ _ = []

-- in order of declaration, without the register arrays
abbrev pub memory_items : DescriptionTree → List ArrayItem
memory_items d = marked (arrays_of d) (memories_of d)

abbrev pub memory_named : DescriptionTree → List ℕ → Option ArrayItem
memory_named d name = find (λ a. bytes_eq a.name name) (memory_items d)
