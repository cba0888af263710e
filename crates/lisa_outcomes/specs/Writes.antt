-- A command that only writes a text.
use Rattle.std.specs.Prelude.{ℕ, ◌≡◌, ◌≢◌, ◌≤◌, List, Option, Result, Err, OnOk}
use Rattle.std.specs.Io.KnownBytes.{Appends}
use Rattle.lisa_io.specs.Causes.{Rose}
use Rattle.lisa_io.specs.Contents.{AppendsFront}
use Rattle.lisa_outcomes.specs.declared.status.End.{End}
use Rattle.lisa_outcomes.specs.declared.status.End.TheVariants as ends
use Rattle.lisa_outcomes.specs.declared.status.Refusal.{Refusal}

pub record Writes {T : Type 0} (before after : Option (List ℕ)) (old new : ℕ) (result : Result T End) (text : List ℕ) : Type 0 where
  pub all : OnOk result (Appends before after text)
  pub front : AppendsFront before after text
  pub later : old ≤ new
  pub write : result ≡ Err ends.WriteFault → Rose old new
  pub read : result ≢ Err ends.ReadFault
  pub refused : (refusal : Refusal) → result ≢ Err (ends.Refused refusal)
