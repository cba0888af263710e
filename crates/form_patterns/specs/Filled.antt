-- The instructions of a description: its forms with values for their fields.
use Rattle.std.specs.Prelude.{◌≡◌, ◌<◌, ℕ, List}
use Rattle.lisa_tree.specs.Descriptions.{DescriptionTree}
use Rattle.instruction_trees.specs.Trees.{Tree, Fits, IsBelow, form}
use Rattle.instruction_trees.specs.Values.{AreWithin, values}
use Rattle.instruction_forms.specs.coding_tables.Codings.{coding_table}
use Rattle.instruction_forms.specs.coding_tables.Instructions.{instruction_items, forms_of, form_count}
use Rattle.pattern_tables.specs.Instructions.{form_at}
use Rattle.form_patterns.specs.Instructions.{field_places}

-- there is a form of this number, and these are values for its fields, one for each in preorder, which has no more bits than the field
pub record AreValuesOf (d : DescriptionTree) (k : ℕ) (vs : List ℕ) : Type 0 where
  pub within : k < form_count d
  pub fit : AreWithin vs (field_places d (form_at (forms_of d) k))

-- the tree of this form with these values
pub record IsInstruction (d : DescriptionTree) (k : ℕ) (vs : List ℕ) (t : Tree ℕ) : Type 0 where
  pub fits : Fits IsBelow (coding_table d) t (instruction_items d)
  pub formed : form t ≡ form_at (forms_of d) k
  pub valued : values t ≡ vs
