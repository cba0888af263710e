-- What `asm` gives.
use Rattle.std.specs.Prelude.{ℕ, ◌≡◌, List, [], None, Ok, Err}
use Rattle.asm_source.specs.Plain.{PlainLine}
use Rattle.asm_source.specs.Source.{source_of}
use Rattle.asm_source.specs.declared.flaw.SourceFault.{SourceFault}
use Rattle.lisa_tree.specs.Descriptions.{DescriptionTree}
use Rattle.lisa_object.specs.Objects.{PlainObject}
use Rattle.lisa_object.specs.ObjectText.{object_text}
use Rattle.source_promises.specs.lisa_assembler.Objects.{IsObjectOf}
use Rattle.source_promises.specs.lisa_assembler.Faults.{IsSourceFault}
use Rattle.lisa_outcomes.specs.declared.status.Refusal.{Refusal}
use Rattle.lisa_outcomes.specs.declared.status.Refusal.TheVariants as refusals
use Rattle.lisa_outcomes.specs.Outcomes.{Outcome, Finished, After}
use Rattle.checked_descriptions.specs.Descriptions.{AfterSpelling}
use Rattle.checked_descriptions.specs.Checked.{Checked, AfterChecks}

-- the most bytes of a source
abbrev pub source_limit : ℕ
source_limit = 4194304

-- the lines that bytes say
abbrev pub IsSource : List ℕ → List PlainLine → Type 0
IsSource bytes lines = source_of bytes ≡ Ok lines

-- the first line that says nothing, and what is wrong with it
abbrev pub IsNoSource : List ℕ → Refusal → Type 0
IsNoSource bytes refusal = (fault : SourceFault) × (source_of bytes ≡ Err fault) × (refusal ≡ refusals.Source fault)

-- the outcome of a command that first reads a source
abbrev pub AfterSource : List ℕ → (List PlainLine → Outcome → Type 0) → Outcome → Type 0
AfterSource bytes Then = After (IsSource bytes) (IsNoSource bytes) Then

-- the first fault of a description's source
abbrev pub IsUnassembled : DescriptionTree → List PlainLine → Refusal → Type 0
IsUnassembled d lines refusal = (fault : SourceFault) × IsSourceFault d None [] lines fault × (refusal ≡ refusals.Source fault)

-- the text of the object of a source
abbrev pub Assembles : DescriptionTree → List PlainLine → Outcome → Type 0
Assembles d lines = After (IsObjectOf d lines) (IsUnassembled d lines) (λ object outcome. outcome ≡ Finished (object_text object))

-- over a description that is checked
abbrev pub AssemblesChecked : List ℕ → Checked → Outcome → Type 0
AssemblesChecked source c = AfterSource source (Assembles c.tree)

-- over the bytes of a description and of a source: the description is read and checked first, and then the source
abbrev pub GivesObject : (description source : List ℕ) → Outcome → Type 0
GivesObject description source = AfterSpelling description (λ d. AfterChecks d (AssemblesChecked source))
