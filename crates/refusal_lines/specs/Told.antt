-- How a status is told on the second stream.
use Rattle.std.specs.Prelude.{ℕ, ◌≡◌, ◌≤◌, true, List, Option, ◌⊎◌}
use Rattle.std.specs.Io.KnownBytes.{Appends}
use Rattle.lisa_io.specs.Causes.{Rose}
use Rattle.lisa_io.specs.Contents.{AppendsFront}
use Rattle.lisa_outcomes.specs.declared.status.Status.{Status}
use Rattle.lisa_outcomes.specs.declared.status.Status.TheVariants as statuses
use Rattle.refusal_lines.specs.Says.{status_text, has_line}

-- the status was told whole; or the stream failed while the line of another status was to be told, and holds a front of that line
pub record IsTold (status : Status) (before after : Option (List ℕ)) (old new : ℕ) (result : Status) : Type 0 where
  pub later : old ≤ new
  pub told : (result ≡ status) × Appends before after (status_text status)
      ⊎ (result ≡ statuses.WriteFault) × (has_line status ≡ true) × Rose old new × AppendsFront before after (status_text status)
