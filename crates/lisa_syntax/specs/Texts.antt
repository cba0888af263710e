-- The texts of a description's instructions, and those that two of its forms share.
use Rattle.std.specs.Prelude.{◌≡◌, ◌<◌, ◌≤◌, ℕ, List, Option, None, Some}
use Rattle.lisa_tree.specs.declared.faults.DescFault.{DescFault}
use Rattle.lisa_tree.specs.declared.faults.DescFault.TheVariants as faults
use Rattle.lisa_tree.specs.Descriptions.{DescriptionTree}
use Rattle.instruction_trees.specs.Trees.{Form, Choose}
use Rattle.lisa_forms.specs.coding_tables.Codings.{coding_table}
use Rattle.lisa_forms.specs.coding_tables.Instructions.{forms_of, form_count}
use Rattle.pattern_tables.specs.Instructions.{form_at}
use Rattle.instruction_texts.specs.declared.shapes.Token.{Token}
use Rattle.instruction_texts.specs.Written.{text_bytes}
use Rattle.instruction_texts.specs.Texts.{Writes}
use Rattle.lisa_forms.specs.form_texts.Syntaxes.{syntax_table}
use Rattle.lisa_forms.specs.Verdicts.{form_name_at}

-- some tree of the form has this text
abbrev pub InstructionWrites : DescriptionTree → Form → List Token → Type 0
InstructionWrites d (Choose o own t) ts = Writes (coding_table d) (syntax_table d) o own ts
InstructionWrites d _ ts = ⊥

-- two different forms write one text, the earlier one first
pub record IsAmbiguity (d : DescriptionTree) (i j : ℕ) (ts : List Token) : Type 0 where
  pub order : i < j
  pub within : j < form_count d
  pub first : InstructionWrites d (form_at (forms_of d) i) ts
  pub second : InstructionWrites d (form_at (forms_of d) j) ts

-- of all such forms these are the least first one, and with it the least second one
pub record IsFirstAmbiguity (d : DescriptionTree) (i j : ℕ) : Type 0 where
  pub first : (k l : ℕ) (ts : List Token) → IsAmbiguity d k l ts → i ≤ k
  pub second : (l : ℕ) (ts : List Token) → IsAmbiguity d i l ts → j ≤ l

-- the fault names the first two forms that share a text, and some text of both
pub record IsAmbiguityFault (d : DescriptionTree) (fault : DescFault) : Type 0 where
  pub first : ℕ
  pub second : ℕ
  pub tokens : List Token
  pub shared : IsAmbiguity d first second tokens
  pub least : IsFirstAmbiguity d first second
  pub is : fault ≡ faults.Ambiguous (form_name_at d first) (form_name_at d second) (text_bytes tokens)

-- no two forms share a text, or this is the fault of the first two that do
abbrev pub IsAmbiguityVerdict : DescriptionTree → Option DescFault → Type 0
IsAmbiguityVerdict d None = (i j : ℕ) (ts : List Token) → IsAmbiguity d i j ts → ⊥
IsAmbiguityVerdict d (Some fault) = IsAmbiguityFault d fault
