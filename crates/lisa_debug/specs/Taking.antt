-- A session while bytes of an input are taken.
use Rattle.std.specs.Prelude.{ℕ, ◌≤◌, ◌≡◌, List, Option, Result, Err, IfOk, OnOk}
use Rattle.std.specs.Io.KnownBytes.{Appends}
use Rattle.lisa_io.specs.Causes.{Rose}
use Rattle.lisa_io.specs.Contents.{AppendsFront}
use Rattle.lisa_engine.specs.State.{State}
use Rattle.lisa_engine.specs.declared.trace.TraceEnd.{TraceEnd}
use Rattle.lisa_engine.specs.declared.trace.TraceEnd.TheVariants.{WriteFault}
use Rattle.lisa_engine.specs.Machines.{Course}
use Rattle.lisa_debug.specs.Kept.{CameTo}
use Rattle.lisa_debug.specs.Sessions.{answers, whole_lines, rest_of, lines_of}
use Rattle.lisa_debug.specs.declared.command.Go.{Go}
use Rattle.lisa_debug.specs.declared.command.Go.TheVariants.{On}
use Rattle.lisa_debug.specs.declared.journal.Journal.{Journal}

-- the whole lines among the bytes taken are answered, none of them was `quit`, and the bytes behind them are kept
pub record Stands (course now : Course) (present : State) (journal : Journal) (line taken : List ℕ) : Type 0 where
  pub to : CameTo course now present journal (answers course (whole_lines taken)).position
  pub on : (answers course (whole_lines taken)).go ≡ On
  pub kept : line ≡ rest_of taken

-- bytes were taken, and the whole lines among all that were taken so far are answered, up to `quit`; or a front of the
-- answers was appended
pub record Takes (course now : Course) (present : State) (journal : Journal) (line taken : List ℕ) (start written : Option (List ℕ))
    (result : Result Go TraceEnd) : Type 0 where
  pub stands : IfOk result (λ go. go ≡ On → Stands course now present journal line taken)
  pub goes : IfOk result (λ go. go ≡ (answers course (whole_lines taken)).go)
  pub all : OnOk result (Appends start written (answers course (whole_lines taken)).text)
  pub front : AppendsFront start written (answers course (whole_lines taken)).text

-- what a count of faults and an end have to do with one another
pub record HasFault {T : Type 0} (old new : ℕ) (result : Result T TraceEnd) : Type 0 where
  pub later : old ≤ new
  pub fault : result ≡ Err WriteFault → Rose old new

-- the input is at its end, and all its lines are answered; or a front of the answers was appended
pub record Finishes {T E : Type 0} (course : Course) (taken : List ℕ) (start written : Option (List ℕ)) (result : Result T E) : Type 0 where
  pub all : OnOk result (Appends start written (answers course (lines_of taken)).text)
  pub front : AppendsFront start written (answers course (lines_of taken)).text
