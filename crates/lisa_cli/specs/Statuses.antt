-- The status of a command's end.
use Rattle.std.specs.Prelude.{Result, Ok, Err}
use Rattle.lisa_outcomes.specs.declared.status.End.{End}
use Rattle.lisa_outcomes.specs.declared.status.End.TheVariants as ends
use Rattle.lisa_outcomes.specs.declared.status.Status.{Status}
use Rattle.lisa_outcomes.specs.declared.status.Status.TheVariants as statuses

abbrev pub status_of : {T : Type 0} → Result T End → Status
status_of (Ok x) = statuses.Done
status_of (Err (ends.Refused refusal)) = statuses.Refused refusal
status_of (Err ends.ReadFault) = statuses.ReadFault
status_of (Err ends.WriteFault) = statuses.WriteFault
status_of (Err ends.NoMemory) = statuses.NoMemory
