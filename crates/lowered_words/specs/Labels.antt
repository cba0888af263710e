-- The fields of labels, and what reads them from a row. On the way to the program: nothing here needs to be trusted.
use Rattle.std.specs.Prelude.{ℕ, List, Option, None, Some, filter_map, find, slice_get}
use Rattle.std.specs.Option.{option_and_then}
use Rattle.lisa_words.specs.declared.words.Kind.TheVariants.{Unsigned}
use Rattle.lisa_tree.specs.Descriptions.{DescriptionTree}
use Rattle.lisa_tree.specs.Same.{same_name}
use Rattle.instruction_trees.specs.Trees.{Form}
use Rattle.instruction_forms.specs.declared.form.Field.{Field}
use Rattle.instruction_forms.specs.Trees.{FormTree}
use Rattle.instruction_forms.specs.Described.{instruction_form}
use Rattle.scene_paths.specs.lisa_meaning.Values.{fields_of, field_kind}
use Rattle.step_program.specs.declared.expressions.OneOp.TheVariants.{Cut}
use Rattle.step_program.specs.declared.expressions.TwoOp.TheVariants as ops
use Rattle.step_program.specs.Programs.{Const, Temp, One, Two}
use Rattle.step_pieces.specs.Pieces.{nothing}
use Rattle.lowered_values.specs.Operands.{Operand, operand_of}
use Rattle.lowered_values.specs.Computed.{Computed, leaf, kept}
use Rattle.lowered_words.specs.Ways.{Way, part_by, plain_forms}

-- ---- which field a label is

-- the first one of this label
abbrev pub first_field : List ℕ → FormTree → Option Field
first_field n part = find (λ field. same_name n field.label) (fields_of part)

abbrev pub form_part : DescriptionTree → Way → Form → Option FormTree
form_part d w f = part_by (instruction_form d f) w

-- that of the first plain form that has one
abbrev pub first_part : DescriptionTree → Way → Option FormTree
first_part d w = slice_get (filter_map (form_part d w) (plain_forms d)) 0

-- the field of a label in the part that is reached by a way, whichever form has it
abbrev pub label_field : DescriptionTree → Way → List ℕ → Option Field
label_field d w n = option_and_then (first_field n) (first_part d w)

-- ---- what reads it

-- the field's bits of the word at a temp
abbrev pub cut_out : ℕ → Field → Operand
cut_out word f = operand_of (field_kind f.signed) f.width (One (Cut f.width) (Two ops.Shr (Temp word) (Const 6 f.lsb)))

abbrev pub field_computed : (base from : ℕ) → Option Field → Computed
field_computed base from None = leaf (operand_of Unsigned 1 (Const 1 0))
field_computed base from (Some f) = kept from nothing (cut_out base f)

-- a label of the part that is reached by a way, from the word of a row
abbrev pub label_computed : DescriptionTree → (base from : ℕ) → Way → List ℕ → Computed
label_computed d base from w n = field_computed base from (label_field d w n)
