-- What a command gives: the bytes that it writes, or a refusal.
use Rattle.std.specs.Prelude.{ℕ, ◌≡◌, ◌<◌, ◌≤◌, List, [], length, Option, Some}
use Rattle.lisa_outcomes.specs.declared.status.Refusal.{Refusal}
use Rattle.lisa_outcomes.specs.declared.status.Refusal.TheVariants as refusals
use Rattle.lisa_outcomes.specs.declared.status.FileFault.TheVariants as file_faults

pub data Outcome : Type 0 where
  Finished : List ℕ → Outcome
  -- the refusal, and what was written before it: nothing but in a session of the debugger
  Refusing : Refusal → List ℕ → Outcome

abbrev pub written_of : Outcome → List ℕ
written_of (Finished text) = text
written_of (Refusing refusal text) = text

-- the outcome of a command that first looks for something: where it is found, the rest of the command says the outcome, and where
-- something is wrong, that is the refusal
pub data After {A : Type 0} (Found : A → Type 0) (Wrong : Refusal → Type 0) (Then : A → Outcome → Type 0) : Outcome → Type 0 where
  passed : {a : A} {outcome : Outcome} → Found a → Then a outcome → After Found Wrong Then outcome
  stopped : {refusal : Refusal} → Wrong refusal → After Found Wrong Then (Refusing refusal [])

-- files by their names
abbrev pub FileMap : Type 0
FileMap = List ℕ → Option (List ℕ)

-- what a run is given that reads files and the input
pub record Given : Type 0 where
  pub files : FileMap
  pub input : List ℕ

-- a file's bytes, of which there are no more than the limit
abbrev pub IsFile : FileMap → (name : List ℕ) → (limit : ℕ) → List ℕ → Type 0
IsFile files name limit bytes = (files name ≡ Some bytes) × (length bytes ≤ limit)

abbrev pub IsTooLong : FileMap → (name : List ℕ) → (limit : ℕ) → Refusal → Type 0
IsTooLong files name limit refusal = (bytes : List ℕ) × (files name ≡ Some bytes) × (limit < length bytes) × (refusal ≡ refusals.File (file_faults.TooLong name))
