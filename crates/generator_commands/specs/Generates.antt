-- What `gen` gives.
use Rattle.std.specs.Prelude.{ℕ, ◌≡◌, List, None}
use Rattle.lisa_tree.specs.Descriptions.{DescriptionTree}
use Rattle.lisa_object.specs.declared.faults.GenFault.TheVariants as faults
use Rattle.generated_programs.specs.Memories.{IsProgramMemory}
use Rattle.generated_programs.specs.Programs.{IsProgram}
use Rattle.lisa_outcomes.specs.declared.status.Refusal.{Refusal}
use Rattle.lisa_outcomes.specs.declared.status.Refusal.TheVariants as refusals
use Rattle.lisa_outcomes.specs.Outcomes.{Outcome, Finished, After}
use Rattle.assembler_commands.specs.checked_descriptions.Descriptions.{AfterSpelling}
use Rattle.assembler_commands.specs.checked_descriptions.Checked.{Checked, AfterChecks}

-- no memory is as wide as an instruction, or there is no instruction
abbrev pub IsNoProgram : DescriptionTree → Refusal → Type 0
IsNoProgram d refusal = IsProgramMemory d None × (refusal ≡ refusals.Program faults.NoProgram)

-- the outcome of a command that first draws a program of so many instructions from a number
abbrev pub AfterProgram : DescriptionTree → (number count : ℕ) → (List ℕ → Outcome → Type 0) → Outcome → Type 0
AfterProgram d number count Then = After (IsProgram d number count) (IsNoProgram d) Then

-- its text, over a description that is checked
abbrev pub GeneratesChecked : (number count : ℕ) → Checked → Outcome → Type 0
GeneratesChecked number count c = AfterProgram c.tree number count (λ text outcome. outcome ≡ Finished text)

-- over the bytes of a description, which is read and checked first
abbrev pub GivesProgram : (description : List ℕ) → (number count : ℕ) → Outcome → Type 0
GivesProgram description number count = AfterSpelling description (λ d. AfterChecks d (GeneratesChecked number count))
