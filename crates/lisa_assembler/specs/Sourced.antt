-- The bytes of a source, and what they are assembled to.
use Rattle.std.specs.Prelude.{◌≡◌, ◌⊎◌, ℕ, List, [], None, Ok, Err}
use Rattle.lisa_tree.specs.Descriptions.{DescriptionTree}
use Rattle.asm_source.specs.Plain.{PlainLine}
use Rattle.asm_source.specs.Source.{source_of}
use Rattle.asm_source.specs.declared.flaw.SourceFault.{SourceFault}
use Rattle.lisa_object.specs.Objects.{PlainObject}
use Rattle.lisa_assembler.specs.Objects.{IsObjectOf}
use Rattle.lisa_assembler.specs.Faults.{IsSourceFault}

-- the object of the lines that bytes say
abbrev pub IsObjectOfBytes : DescriptionTree → List ℕ → PlainObject → Type 0
IsObjectOfBytes d bytes o = (ls : List PlainLine) × (source_of bytes ≡ Ok ls) × IsObjectOf d ls o

-- the fault of the first line that says nothing, or else that of the first line that has one
abbrev pub IsFaultOfBytes : DescriptionTree → List ℕ → SourceFault → Type 0
IsFaultOfBytes d bytes f = (source_of bytes ≡ Err f) ⊎ ((ls : List PlainLine) × (source_of bytes ≡ Ok ls) × IsSourceFault d None [] ls f)
