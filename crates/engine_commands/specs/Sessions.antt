-- What a session of the debugger gives over a machine.
use Rattle.std.specs.Prelude.{ℕ, Bool, true, false, List, Option, Result, Ok, Err}
use Rattle.std.specs.Io.KnownBytes.{Consumes}
use Rattle.lisa_debug.specs.Sessions.{is_too_long, session_text}
use Rattle.lisa_debug.specs.Runs.{GoesOn}
use Rattle.lisa_debug.specs.declared.ends.SessionEnd.{SessionEnd}
use Rattle.lisa_debug.specs.declared.ends.SessionEnd.TheVariants as session_ends
use Rattle.lisa_outcomes.specs.declared.status.End.{End}
use Rattle.lisa_outcomes.specs.declared.status.End.TheVariants as ends
use Rattle.lisa_outcomes.specs.declared.status.Refusal.TheVariants as refusals
use Rattle.lisa_outcomes.specs.declared.status.InputFault.TheVariants as input_faults
use Rattle.lisa_outcomes.specs.Outcomes.{Outcome, Finished, Refusing}
use Rattle.lisa_engine.specs.Machines.{Course}

-- the answers to the lines of an input, or to the whole lines among the first bytes of one that is too long
abbrev pub given_up : Bool → List ℕ → Outcome
given_up true text = Refusing (refusals.Input input_faults.TooLong) text
given_up false text = Finished text

abbrev pub session_outcome : Course → List ℕ → Outcome
session_outcome course input = given_up (is_too_long course input) (session_text course input)

-- the input of a session failed: the whole lines among the bytes that were taken are answered, and none of them was `quit`
pub record IsCutOff (course : Course) (left rest : Option (List ℕ)) (before after : Option (List ℕ)) : Type 0 where
  pub taken : List ℕ
  pub consumed : Consumes left rest taken
  pub goes_on : GoesOn course taken before after

-- how a session's command ends
abbrev pub end_of : SessionEnd → End
end_of session_ends.TooLong = ends.Refused (refusals.Input input_faults.TooLong)
end_of session_ends.ReadFault = ends.ReadFault
end_of session_ends.WriteFault = ends.WriteFault
end_of session_ends.NoMemory = ends.NoMemory

abbrev pub ended : {T : Type 0} → Result T SessionEnd → Result T End
ended (Ok x) = Ok x
ended (Err e) = Err (end_of e)
