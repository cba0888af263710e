-- The files that a command reads: a list of names with their limits, in the order in which they are read.
use Rattle.std.specs.Prelude.{ℕ, ◌≡◌, ◌≢◌, List, [], ◌∷◌, Option, Some, Result, Err, IfOk, ◌⊎◌, slice_index_or}
use Rattle.lisa_io.specs.Causes.{Rose}
use Rattle.lisa_io.specs.Contents.{Held}
use Rattle.lisa_outcomes.specs.declared.status.End.{End}
use Rattle.lisa_outcomes.specs.declared.status.End.TheVariants as ends
use Rattle.lisa_outcomes.specs.declared.status.Refusal.{Refusal}
use Rattle.lisa_outcomes.specs.Outcomes.{Outcome, FileMap, After, IsFile, IsTooLong}
use Rattle.lisa_outcomes.specs.Refusals.{IsRefusal}

-- a file's name, and the most bytes that it may have
pub record NamedFile : Type 0 where
  pub name : List ℕ
  pub limit : ℕ

abbrev pub named : List ℕ → ℕ → NamedFile
named name limit = record { name = name; limit = limit }

-- the bytes of each, which are no more than its limit
abbrev pub AreFiles : FileMap → List NamedFile → List (List ℕ) → Type 0
AreFiles files [] bytes = bytes ≡ []
AreFiles files (file ∷ rest) bytes =
    (first : List ℕ) × (others : List (List ℕ)) × (bytes ≡ first ∷ others) × IsFile files file.name file.limit first × AreFiles files rest others

-- the first of them that is too long
abbrev pub IsLongFile : FileMap → List NamedFile → Refusal → Type 0
IsLongFile files [] refusal = ⊥
IsLongFile files (file ∷ rest) refusal =
    IsTooLong files file.name file.limit refusal ⊎ ((first : List ℕ) × IsFile files file.name file.limit first × IsLongFile files rest refusal)

-- the outcome of a command that first reads these files whole
abbrev pub AfterFiles : FileMap → List NamedFile → (List (List ℕ) → Outcome → Type 0) → Outcome → Type 0
AfterFiles files named Then = After (AreFiles files named) (IsLongFile files named) Then

-- one of them failed
abbrev pub SomeFailed : List NamedFile → (before now : List ℕ → ℕ) → Type 0
SomeFailed [] before now = ⊥
SomeFailed (file ∷ rest) before now = Rose (before file.name) (now file.name) ⊎ SomeFailed rest before now

-- the bytes of the file at a place of the list
abbrev pub file_at : List (List ℕ) → ℕ → List ℕ
file_at bytes place = slice_index_or bytes place []

-- what came of reading them
pub record LoadsFiles {X : Type 0} (view : X → List (List ℕ)) (held : Held) (named : List NamedFile) (before now : List ℕ → ℕ) (result : Result X End) : Type 0 where
  pub bytes : IfOk result (λ x. (files : FileMap) → held ≡ Some files → AreFiles files named (view x))
  pub refused : (refusal : Refusal) → result ≡ Err (ends.Refused refusal) → (files : FileMap) → held ≡ Some files → IsLongFile files named refusal
  pub real : (refusal : Refusal) → result ≡ Err (ends.Refused refusal) → IsRefusal refusal
  pub read : result ≡ Err ends.ReadFault → SomeFailed named before now
  pub write : result ≢ Err ends.WriteFault
