-- What is kept of a description's forms and occurrences.
use Rattle.std.specs.Prelude.{◌≡◌, ℕ, Option}
use Rattle.lisa_tree.specs.Descriptions.{DescriptionTree}
use Rattle.form_patterns.specs.coding_tables.Instructions.{form_count}
use Rattle.description_sizes.specs.activation_trees.Unfolding.{occurrences}
use Rattle.description_sizes.specs.Sizes.{items}
use Rattle.description_sizes.specs.Laws.{AreWithinLimits}
use Rattle.form_promises.specs.lisa_machine.Verdicts.{IsAccepted}
use Rattle.form_patterns.specs.instruction_forms.Described.{AreForms}
use Rattle.form_patterns.specs.instruction_forms.Widths.{HasWidth}
use Rattle.form_patterns.specs.Instructions.{instruction_plain}
use Rattle.lisa_forms.specs.declared.forms.Forms.{Forms}
use Rattle.lisa_forms.specs.Ways.{AreWays}
use Rattle.lisa_forms.specs.Verdicts.{HasForms}

-- each count of a description is within its limit
pub record IsLimited (d : DescriptionTree) : Type 0 where
  pub width : Option ℕ
  pub has_width : HasWidth d width
  pub limits : AreWithinLimits d width (form_count d)

-- These are the forms, occurrences and items of an accepted description, and how each occurrence is activated. No condition on its
-- codings, sizes and texts is broken.
pub record AreFormsOf (d : DescriptionTree) (f : Forms) : Type 0 where
  pub accepted : IsAccepted d
  pub has_forms : HasForms d
  pub all_forms : AreForms d f.forms.items
  pub all_plain : f.plain.items ≡ instruction_plain d
  pub all_occurrences : f.occurrences.items ≡ occurrences d
  pub all_ways : AreWays d f.ways.items
  pub all_items : f.items.items ≡ items d f.width
  pub has_width : HasWidth d f.width
  pub limits : AreWithinLimits d f.width (form_count d)
