-- Descriptions that bytes spell, and what commands give that read one.
use Rattle.std.specs.Prelude.{ℕ, ◌≡◌, List}
use Rattle.lisa_tree.specs.declared.faults.DescFault.{DescFault}
use Rattle.lisa_tree.specs.Descriptions.{DescriptionTree}
use Rattle.lisa_tree.specs.Texts.{SpellsText}
use Rattle.lisa_outcomes.specs.declared.status.Refusal.{Refusal}
use Rattle.lisa_outcomes.specs.declared.status.Refusal.TheVariants as refusals
use Rattle.lisa_reader.specs.Answers.{IsBroken}
use Rattle.lisa_outcomes.specs.Outcomes.{Outcome, After}

-- the most bytes of a description
abbrev pub description_limit : ℕ
description_limit = 1048576

-- the description that bytes spell
abbrev pub IsUnread : List ℕ → Refusal → Type 0
IsUnread bytes refusal = (fault : DescFault) × IsBroken bytes fault × (refusal ≡ refusals.Description fault)

abbrev pub AfterSpelling : List ℕ → (DescriptionTree → Outcome → Type 0) → Outcome → Type 0
AfterSpelling bytes Then = After (SpellsText bytes) (IsUnread bytes) Then
