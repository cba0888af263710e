-- The first fault of a sound description's instructions: of their forms, and then of the words and texts that the forms have.
use Rattle.std.specs.Prelude.{◌⊎◌, None, Some}
use Rattle.lisa_tree.specs.declared.faults.DescFault.{DescFault}
use Rattle.lisa_tree.specs.Descriptions.{DescriptionTree}
use Rattle.lisa_syntax.specs.lisa_machine.Verdicts.{Verdict, before, nothing}
use Rattle.lisa_syntax.specs.lisa_forms.Verdicts.{HasForms, IsFirstFormFault}
use Rattle.lisa_syntax.specs.lisa_forms.Coverage.{IsOverlapVerdict, IsUncoveredVerdict}
use Rattle.lisa_syntax.specs.Texts.{IsAmbiguityVerdict}

-- ---- the conditions on forms, the last one first, each with those behind it

-- no plain form covers an alias
abbrev pub from_aliases : DescriptionTree → Verdict
from_aliases d = before (IsUncoveredVerdict d) nothing

-- two forms have a text in common
abbrev pub from_ambiguities : DescriptionTree → Verdict
from_ambiguities d = before (IsAmbiguityVerdict d) (from_aliases d)

-- two plain forms have a word in common
abbrev pub from_overlaps : DescriptionTree → Verdict
from_overlaps d = before (IsOverlapVerdict d) (from_ambiguities d)

-- ---- with those on what it unfolds to

-- none is broken
abbrev pub HasInstructions : DescriptionTree → Type 0
HasInstructions d = HasForms d × from_overlaps d None

-- one is broken, and the first fault of the first such one is this
abbrev pub IsFirstInstructionFault : DescriptionTree → DescFault → Type 0
IsFirstInstructionFault d fault = IsFirstFormFault d fault ⊎ (HasForms d × from_overlaps d (Some fault))
