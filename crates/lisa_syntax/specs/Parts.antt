-- What is kept of the texts of a description's instructions.
use Rattle.std.specs.Prelude.{◌≡◌, None, map}
use Rattle.lisa_tree.specs.Descriptions.{DescriptionTree}
use Rattle.lisa_forms.specs.lisa_machine.Verdicts.{IsAccepted}
use Rattle.lisa_forms.specs.coding_tables.Instructions.{forms_of}
use Rattle.lisa_forms.specs.form_texts.Instructions.{instruction_shapes, instruction_order}
use Rattle.lisa_forms.specs.Verdicts.{HasForms}
use Rattle.lisa_syntax.specs.declared.syntax.Syntax.{Syntax}
use Rattle.lisa_syntax.specs.Texts.{IsAmbiguityVerdict}

-- the description is accepted with its forms, no two of which have a text in common; these are the pieces of all texts, and the orders
-- of their fields
pub record IsSyntaxOf (d : DescriptionTree) (s : Syntax) : Type 0 where
  pub accepted : IsAccepted d
  pub has_forms : HasForms d
  pub apart : IsAmbiguityVerdict d None
  pub pieces : s.table ≡ map (instruction_shapes d) (forms_of d)
  pub all_orders : map (λ v. v.items) s.orders.items ≡ map (instruction_order d) (forms_of d)
