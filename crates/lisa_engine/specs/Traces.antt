-- What a call that writes a trace appends.
use Rattle.std.specs.Prelude.{ℕ, ◌≤◌, ◌≡◌, List, Option, Result, Err, OnOk}
use Rattle.std.specs.Io.KnownBytes.{Appends}
use Rattle.lisa_io.specs.Causes.{Rose}
use Rattle.lisa_io.specs.Contents.{AppendsFront}
use Rattle.lisa_engine.specs.declared.trace.TraceEnd.{TraceEnd}
use Rattle.lisa_engine.specs.declared.trace.TraceEnd.TheVariants.{WriteFault}

-- a text was appended at Ok, and a front of it otherwise; a write fault comes only where the count of faults rose
pub record PutsUnless {T : Type 0} (before after : Option (List ℕ)) (old new : ℕ) (result : Result T TraceEnd) (text : List ℕ) : Type 0 where
  pub all : OnOk result (Appends before after text)
  pub front : AppendsFront before after text
  pub later : old ≤ new
  pub fault : result ≡ Err WriteFault → Rose old new
