-- What a line of a source is read as.
use Rattle.std.specs.Prelude.{◌≡◌, ℕ, List, map}
use Rattle.lisa_tree.specs.Descriptions.{DescriptionTree}
use Rattle.asm_source.specs.Plain.{PlainToken}
use Rattle.lisa_forms.specs.coding_tables.Instructions.{forms_of}
use Rattle.lisa_forms.specs.form_texts.Instructions.{instruction_shapes, instruction_order}
use Rattle.instruction_texts.specs.declared.operands.Operand.{Operand}
use Rattle.instruction_texts.specs.declared.shapes.Shape.{Shape}
use Rattle.instruction_texts.specs.Lines.{Plain, given}
use Rattle.text_tables.specs.Reading.{IsMatch, IsFound}
use Rattle.text_tables.specs.declared.table.Found.TheVariants as founds
use Rattle.lisa_syntax.specs.declared.reading.LineFault.{LineFault}
use Rattle.lisa_syntax.specs.declared.reading.LineFault.TheVariants as faults
use Rattle.lisa_syntax.specs.declared.reading.Matched.{Matched}
use Rattle.lisa_syntax.specs.Orders.{order_at, IsInOrder}

-- the pieces of the texts of all forms, and the orders of their fields
abbrev pub all_shapes : DescriptionTree → List (List Shape)
all_shapes d = map (instruction_shapes d) (forms_of d)

abbrev pub all_orders : DescriptionTree → List (List ℕ)
all_orders d = map (instruction_order d) (forms_of d)

-- the line is of this form alone; it gives these operands, each for its field
pub record IsReading (all : List (List Shape)) (orders : List (List ℕ)) (line : List PlainToken) (m : Matched) : Type 0 where
  pub shown : List Operand
  pub is_match : IsMatch all line m.form (map given shown)
  pub only : (k : ℕ) (gs : List Plain) → IsMatch all line k gs → k ≡ m.form
  pub in_order : IsInOrder (order_at orders m.form) m.operands.items shown

-- the line is of no form, or of two or more, the first two of which are these
abbrev pub IsLineFault : List (List Shape) → List PlainToken → LineFault → Type 0
IsLineFault all line faults.NoInstruction = IsFound all line founds.Nothing
IsLineFault all line (faults.TwoInstructions first second) = IsFound all line (founds.Two first second)
IsLineFault all line faults.NoMemory = Unit {0}
