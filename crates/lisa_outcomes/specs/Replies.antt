-- How a command may end that has what it reads: by the outcomes that it gives.
use Rattle.std.specs.Prelude.{ℕ, ◌≡◌, ◌≢◌, ◌≤◌, List, Option, Result, Err, IsOk}
use Rattle.std.specs.Io.KnownBytes.{Appends}
use Rattle.lisa_io.specs.Causes.{Rose}
use Rattle.lisa_outcomes.specs.declared.status.End.{End}
use Rattle.lisa_outcomes.specs.declared.status.End.TheVariants as ends
use Rattle.lisa_outcomes.specs.declared.status.Refusal.{Refusal}
use Rattle.lisa_outcomes.specs.Outcomes.{Outcome, Finished, Refusing}
use Rattle.lisa_outcomes.specs.Refusals.{IsRefusal}
use Rattle.lisa_outcomes.specs.Within.{IsWithin}

-- `before` and `after` are what the sink holds, `old` and `new` its counts of faults
pub record Replies {T : Type 0} (Gives : Outcome → Type 0) (before after : Option (List ℕ)) (old new : ℕ) (result : Result T End) : Type 0 where
  pub done : IsOk result → (text : List ℕ) × Gives (Finished text) × Appends before after text
  pub refused : (refusal : Refusal) → result ≡ Err (ends.Refused refusal) → (text : List ℕ) × Gives (Refusing refusal text) × Appends before after text
  pub real : (refusal : Refusal) → result ≡ Err (ends.Refused refusal) → IsRefusal refusal
  pub read : result ≢ Err ends.ReadFault
  pub later : old ≤ new
  pub write : result ≡ Err ends.WriteFault → Rose old new
  -- whatever the end, no more was written than what an outcome has
  pub front : IsWithin Gives before after
  -- what finishes isn't refused, and what is refused doesn't finish
  pub finished : (text : List ℕ) → Gives (Finished text) → (refusal : Refusal) → result ≢ Err (ends.Refused refusal)
  pub refusing : (refusal : Refusal) (text : List ℕ) → Gives (Refusing refusal text) → IsOk result → ⊥
