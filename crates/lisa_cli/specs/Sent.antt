-- How a command ends whose output is sent on.
use Rattle.std.specs.Prelude.{ℕ, ◌≡◌, ◌≤◌, List, Option, Result, Err, IsOk, ◌⊎◌}
use Rattle.std.specs.Io.KnownBytes.{Keeps}
use Rattle.lisa_io.specs.Causes.{Rose}
use Rattle.lisa_outcomes.specs.declared.status.End.{End}
use Rattle.lisa_outcomes.specs.declared.status.End.TheVariants as ends
use Rattle.lisa_outcomes.specs.declared.status.Refusal.{Refusal}

-- it ends as before, or in a write fault where it was done or refused and the output failed; what was put stays, and is sent on for
-- good where it is done or refused, and after a read fault unless the output failed
pub record IsSentOn {T : Type 0} (before after sent : Option (List ℕ)) (old new : ℕ) (end result : Result T End) : Type 0 where
  pub keeps : Keeps before after
  pub later : old ≤ new
  pub same : (result ≡ end) ⊎ (result ≡ Err ends.WriteFault) × Rose old new
  pub done : IsOk result → sent ≡ after
  pub refused : (refusal : Refusal) → result ≡ Err (ends.Refused refusal) → sent ≡ after
  pub read : result ≡ Err ends.ReadFault → (sent ≡ after) ⊎ Rose old new
