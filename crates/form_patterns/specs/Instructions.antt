-- The forms of a description's instructions as lists of frames, with their fields in preorder.
use Rattle.std.specs.Prelude.{ℕ, Bool, List, [], ◌++◌, Option, unwrap_or}
use Rattle.lisa_tree.specs.Descriptions.{DescriptionTree}
use Rattle.lisa_tree.specs.Operations.{is_alias}
use Rattle.instruction_trees.specs.Bits.{Frame}
use Rattle.instruction_trees.specs.Trees.{Form, placed}
use Rattle.instruction_trees.specs.Values.{values}
use Rattle.instruction_forms.specs.coding_tables.Codings.{coding_table}
use Rattle.instruction_forms.specs.coding_tables.Instructions.{instruction_items, forms_of}
use Rattle.instruction_forms.specs.Trees.{FormTree, FormTrees, Node, End, Then}
use Rattle.instruction_forms.specs.declared.form.Field.{Field}
use Rattle.pattern_tables.specs.Instructions.{frames_of, plain_of}
use Rattle.pattern_tables.specs.Patterns.{AllStand}
use Rattle.pattern_tables.specs.declared.bit_pattern.BitPattern.{BitPattern}

-- the literal bits of each form, and which are free
abbrev pub instruction_frames : DescriptionTree → List Frame
instruction_frames d = frames_of (coding_table d) (instruction_items d) (forms_of d)

-- which forms are plain
abbrev pub instruction_plain : DescriptionTree → List Bool
instruction_plain d = plain_of (is_alias d) (forms_of d)

-- masks and patterns that stand for the forms of instructions of this width
abbrev pub ArePatterns : DescriptionTree → Option ℕ → List BitPattern → Type 0
ArePatterns d width all = AllStand (unwrap_or width 0) (instruction_frames d) all

-- the lowest bit and the width of each field of a form, in preorder
abbrev pub field_places : DescriptionTree → Form → List (ℕ × ℕ)
field_places d f = values (placed (coding_table d) 0 f (instruction_items d))

-- ---- the fields of a form as a plain tree

abbrev mutual
  -- in preorder: its own ones first
  pub tree_fields : FormTree → List Field
  tree_fields (Node operation children fields) = fields ++ trees_fields children

  pub trees_fields : FormTrees → List Field
  trees_fields End = []
  trees_fields (Then f rest) = tree_fields f ++ trees_fields rest
