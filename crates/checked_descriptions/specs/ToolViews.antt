-- What the code keeps of a description that is checked.
use Rattle.lisa_tree.specs.Descriptions.{description_tree}
use Rattle.lisa_syntax.specs.lisa_machine.Verdicts.{IsAccepted}
use Rattle.lisa_syntax.specs.lisa_forms.Parts.{AreFormsOf}
use Rattle.lisa_syntax.specs.lisa_forms.Codings.{IsCodingOf}
use Rattle.lisa_syntax.specs.Parts.{IsSyntaxOf}
use Rattle.checked_descriptions.specs.declared.tools.Tools.{Tools}
use Rattle.checked_descriptions.specs.Checked.{Checked}
use Rattle.checked_descriptions.specs.Instructions.{HasInstructions}

abbrev pub checked_of : Tools → Checked
checked_of t = record { tree = description_tree t.machine; width = t.forms.width }

-- they are those of its description, in which no condition is broken
pub record AreTools (t : Tools) : Type 0 where
  pub accepted : IsAccepted (description_tree t.machine)
  pub instructions : HasInstructions (description_tree t.machine)
  pub forms : AreFormsOf (description_tree t.machine) t.forms
  pub coding : IsCodingOf (description_tree t.machine) t.coding
  pub syntax : IsSyntaxOf (description_tree t.machine) t.syntax
