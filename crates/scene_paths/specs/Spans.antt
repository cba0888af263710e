-- The fields of forms stand in words.
use Rattle.std.specs.Prelude.{◌≤◌, ◌+◌, All}
use Rattle.lisa_meaning.specs.instruction_forms.declared.form.Field.{Field}
use Rattle.lisa_meaning.specs.instruction_forms.Trees.{FormTree}
use Rattle.lisa_meaning.specs.form_patterns.Instructions.{tree_fields}

-- it has at least one bit, and stands in a word
pub record IsField (f : Field) : Type 0 where
  pub least : 1 ≤ f.width
  pub most : f.lsb + f.width ≤ 64

abbrev pub HasFields : FormTree → Type 0
HasFields f = All IsField (tree_fields f)
