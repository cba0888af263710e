-- Descriptions that are checked: no condition is broken in them.
use Rattle.std.specs.Prelude.{ℕ, ◌≡◌, Option}
use Rattle.lisa_tree.specs.declared.faults.DescFault.{DescFault}
use Rattle.lisa_tree.specs.Descriptions.{DescriptionTree}
use Rattle.lisa_syntax.specs.instruction_forms.Widths.{HasWidth}
use Rattle.lisa_outcomes.specs.declared.status.Refusal.{Refusal}
use Rattle.lisa_outcomes.specs.declared.status.Refusal.TheVariants as refusals
use Rattle.lisa_outcomes.specs.Outcomes.{Outcome, After}
use Rattle.checked_descriptions.specs.Conditions.{IsSound, IsFirstOfAll}

-- a description, and the width of its instructions where it has any
pub record Checked : Type 0 where
  pub tree : DescriptionTree
  pub width : Option ℕ

-- this description, in which no condition is broken
pub record IsChecked (d : DescriptionTree) (c : Checked) : Type 0 where
  pub tree : c.tree ≡ d
  pub sound : IsSound d
  pub width : HasWidth d c.width

-- it has a first fault
abbrev pub IsFaulty : DescriptionTree → Refusal → Type 0
IsFaulty d refusal = (fault : DescFault) × IsFirstOfAll d fault × (refusal ≡ refusals.Description fault)

-- the outcome of a command that first checks a description
abbrev pub AfterChecks : DescriptionTree → (Checked → Outcome → Type 0) → Outcome → Type 0
AfterChecks d Then = After (IsChecked d) (IsFaulty d) Then
