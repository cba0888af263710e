-- The first fault of an accepted description's codings, sizes and texts: of the first condition that is broken, by their numbers.
use Rattle.std.specs.Prelude.{◌≡◌, ℕ, List, Option, None, Some, option_map}
use Rattle.lisa_tree.specs.declared.faults.DescFault.{DescFault}
use Rattle.lisa_tree.specs.declared.faults.DescFault.TheVariants as faults
use Rattle.lisa_tree.specs.Descriptions.{DescriptionTree}
use Rattle.lisa_tree.specs.Operations.{name_at}
use Rattle.form_patterns.specs.coding_checks.Uneven.{IsFirstGroupWidth}
use Rattle.form_patterns.specs.coding_checks.Written.{not_written}
use Rattle.form_patterns.specs.coding_tables.Instructions.{forms_of, form_count}
use Rattle.description_sizes.specs.activation_trees.Twice.{first_root_twice}
use Rattle.description_sizes.specs.Sizes.{size_fault}
use Rattle.pattern_tables.specs.Instructions.{form_at}
use Rattle.form_patterns.specs.instruction_forms.Described.{instruction_form}
use Rattle.form_patterns.specs.instruction_forms.Naming.{form_text}
use Rattle.form_patterns.specs.instruction_forms.Widths.{HasWidth}
use Rattle.form_promises.specs.form_texts.Instructions.{first_bad_text}
use Rattle.form_promises.specs.lisa_machine.Verdicts.{Verdict, before, at_places, nothing}

-- how the form of a number is written
abbrev pub form_name_at : DescriptionTree → ℕ → List ℕ
form_name_at d k = form_text (name_at d) (instruction_form d (form_at (forms_of d) k))

abbrev pub root_twice : DescriptionTree → ℕ → DescFault
root_twice d o = faults.RootTwice (name_at d o)

abbrev pub IsRootVerdict : DescriptionTree → Verdict
IsRootVerdict d found = found ≡ option_map (root_twice d) (first_root_twice d)

-- some size exceeds its limit
pub record IsSizeVerdict (d : DescriptionTree) (found : Option DescFault) : Type 0 where
  pub width : Option ℕ
  pub has_width : HasWidth d width
  pub is : found ≡ size_fault d width (form_count d)

abbrev pub bad_text : DescriptionTree → ℕ → DescFault
bad_text d k = faults.BadText (form_name_at d k)

abbrev pub IsTextVerdict : DescriptionTree → Verdict
IsTextVerdict d found = found ≡ option_map (bad_text d) (first_bad_text d)

-- ---- the conditions, the last one first, each with those behind it

-- a form's text can't stand in a source
abbrev pub from_texts : DescriptionTree → Verdict
from_texts d = before (IsTextVerdict d) nothing

-- there is too much of something
abbrev pub from_sizes : DescriptionTree → Verdict
from_sizes d = before (IsSizeVerdict d) (from_texts d)

-- there is a second root, or the root occurs twice
abbrev pub from_roots : DescriptionTree → Verdict
from_roots d = before (IsRootVerdict d) (from_sizes d)

-- a label or child isn't written once in the coding and once in the syntax
abbrev pub from_writings : DescriptionTree → Verdict
from_writings d = before (at_places d (not_written d)) (from_roots d)

-- the alternatives of a child differ in width
abbrev pub from_group_widths : DescriptionTree → Verdict
from_group_widths d = before (IsFirstGroupWidth d) (from_writings d)

-- all of them, in the order of their numbers
abbrev pub form_conditions : DescriptionTree → Verdict
form_conditions d = from_group_widths d

-- none is broken
abbrev pub HasForms : DescriptionTree → Type 0
HasForms d = form_conditions d None

-- one is broken, and the first fault of the first such one is this
abbrev pub IsFirstFormFault : DescriptionTree → DescFault → Type 0
IsFirstFormFault d fault = form_conditions d (Some fault)
