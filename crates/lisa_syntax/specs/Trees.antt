-- The texts of instructions.
use Rattle.std.specs.Prelude.{◌≡◌, ◌<◌, ℕ, List, [], length, map, Some, slice_get}
use Rattle.lisa_tree.specs.Descriptions.{DescriptionTree}
use Rattle.instruction_trees.specs.Trees.{Tree, Choose}
use Rattle.lisa_forms.specs.coding_tables.Codings.{coding_table}
use Rattle.lisa_forms.specs.form_patterns.Filled.{IsInstruction}
use Rattle.instruction_texts.specs.declared.operands.Operand.{Operand}
use Rattle.instruction_texts.specs.declared.shapes.Token.{Token}
use Rattle.instruction_texts.specs.Lines.{Value, given}
use Rattle.instruction_texts.specs.Texts.{text}
use Rattle.lisa_forms.specs.form_texts.Syntaxes.{syntax_table}
use Rattle.lisa_syntax.specs.declared.reading.Matched.{Matched}

-- the text of an instruction is that of the operation that it chooses among all instructions, with its parts and values
abbrev pub instruction_text : DescriptionTree → Tree ℕ → List Token
instruction_text d (Choose o own t) = text (coding_table d) (syntax_table d) o own
instruction_text d _ = []

-- the function gives each of these values by its number
abbrev pub AreFields : (ℕ → ℕ) → List ℕ → Type 0
AreFields f fields = (i : ℕ) → i < length fields → slice_get fields i ≡ Some (f i)

-- a line gives these values for the fields
abbrev pub Gives : List Operand → List ℕ → Type 0
Gives operands vs = map given operands ≡ map Value vs

-- a line is read as this form with these values
pub record IsReadAs (k : ℕ) (vs : List ℕ) (m : Matched) : Type 0 where
  pub form : m.form ≡ k
  pub gives : Gives m.operands.items vs

-- what is read is an instruction with this text
pub record HasText (d : DescriptionTree) (ts : List Token) (m : Matched) : Type 0 where
  pub values : List ℕ
  pub tree : Tree ℕ
  pub instruction : IsInstruction d m.form values tree
  pub gives : Gives m.operands.items values
  pub is : instruction_text d tree ≡ ts
