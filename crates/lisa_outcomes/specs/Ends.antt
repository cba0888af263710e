-- How a command may end, by what it gives where what it reads is told.
use Rattle.std.specs.Prelude.{ℕ, ◌≡◌, ◌≢◌, ◌≤◌, ◌<◌, List, length, Option, Some, Result, Err, IsOk, IfOk}
use Rattle.std.specs.Io.KnownBytes.{Appends}
use Rattle.std.specs.Global.{Vec}
use Rattle.lisa_io.specs.Causes.{Rose}
use Rattle.lisa_io.specs.Contents.{Held}
use Rattle.lisa_outcomes.specs.declared.status.End.{End}
use Rattle.lisa_outcomes.specs.declared.status.End.TheVariants as ends
use Rattle.lisa_outcomes.specs.declared.status.Refusal.{Refusal}
use Rattle.lisa_outcomes.specs.declared.status.Refusal.TheVariants as refusals
use Rattle.lisa_outcomes.specs.declared.status.FileFault.TheVariants as file_faults
use Rattle.lisa_outcomes.specs.Outcomes.{Outcome, Finished, Refusing, FileMap}
use Rattle.lisa_outcomes.specs.Refusals.{IsRefusal}
use Rattle.lisa_outcomes.specs.Within.{IsWithin}

-- `Told` says which worlds are told, `Gives` which outcomes each gives, and `Blamed` what stands after a read fault. `before` and
-- `after` are what the sink holds, `old` and `new` its counts of faults.
pub record Ends {T W : Type 0} (Told : W → Type 0) (Gives : W → Outcome → Type 0) (Blamed : Type 0) (before after : Option (List ℕ)) (old new : ℕ) (result : Result T End) : Type 0 where
  pub done : IsOk result → (w : W) → Told w → (text : List ℕ) × Gives w (Finished text) × Appends before after text
  pub refused : (refusal : Refusal) → result ≡ Err (ends.Refused refusal) → (w : W) → Told w
      → (text : List ℕ) × Gives w (Refusing refusal text) × Appends before after text
  pub real : (refusal : Refusal) → result ≡ Err (ends.Refused refusal) → IsRefusal refusal
  pub read : result ≡ Err ends.ReadFault → Blamed
  pub later : old ≤ new
  pub write : result ≡ Err ends.WriteFault → Rose old new
  -- whatever the end, no more was written than what an outcome has
  pub front : (w : W) → Told w → IsWithin (Gives w) before after
  -- what finishes isn't refused, and what is refused doesn't finish
  pub finished : (w : W) (text : List ℕ) → Told w → Gives w (Finished text) → (refusal : Refusal) → result ≢ Err (ends.Refused refusal)
  pub refusing : (w : W) (refusal : Refusal) (text : List ℕ) → Told w → Gives w (Refusing refusal text) → IsOk result → ⊥

-- the files that are told
abbrev pub AreHeld : Held → FileMap → Type 0
AreHeld held files = held ≡ Some files

-- what a file gave that was to be read whole
pub record Loads (held : Held) (name : List ℕ) (limit old new : ℕ) (result : Result (Vec ℕ) End) : Type 0 where
  pub bytes : IfOk result (λ v. (length v.items ≤ limit) × ((files : FileMap) → held ≡ Some files → files name ≡ Some v.items))
  pub refused : (refusal : Refusal) → result ≡ Err (ends.Refused refusal) → (refusal ≡ refusals.File (file_faults.TooLong name))
      × ((files : FileMap) → held ≡ Some files → (bytes : List ℕ) × (files name ≡ Some bytes) × (limit < length bytes))
  pub real : (refusal : Refusal) → result ≡ Err (ends.Refused refusal) → IsRefusal refusal
  pub read : result ≡ Err ends.ReadFault → Rose old new
  pub write : result ≢ Err ends.WriteFault
