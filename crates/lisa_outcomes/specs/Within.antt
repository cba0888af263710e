-- What a command may have written, however it ends.
use Rattle.std.specs.Prelude.{ℕ, List, [], Option, ◌⊎◌}
use Rattle.std.specs.Io.KnownBytes.{Appends}
use Rattle.lisa_io.specs.Contents.{AppendsFront}
use Rattle.lisa_outcomes.specs.Outcomes.{Outcome, written_of}

-- nothing, or a front of the text of one of the outcomes that are given
abbrev pub IsWithin : (Outcome → Type 0) → (before after : Option (List ℕ)) → Type 0
IsWithin Gives before after = Appends before after [] ⊎ ((outcome : Outcome) × Gives outcome × AppendsFront before after (written_of outcome))
