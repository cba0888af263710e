-- What is told of stages rests on the bytes of a run alone.
use Rattle.std.proofs.Common.{◌≡◌, subst, ℕ, List, Option, Result}
use Rattle.lisa_outcomes.specs.RunFiles.{RunBytes}
use Rattle.lisa_outcomes.specs.Replies.{Replies}
use Rattle.lisa_outcomes.specs.declared.status.End.{End}
use Rattle.generator_commands.specs.description_commands.Occupancies.{GivesOccupancy}

pub same_run : {T : Type 0} (edges : ℕ) (first second : RunBytes) (before after : Option (List ℕ)) (old new : ℕ) (result : Result T End) → first ≡ second
    → Replies (GivesOccupancy edges first) before after old new result → Replies (GivesOccupancy edges second) before after old new result
same_run edges first second before after old new result same replies = subst (λ (run : RunBytes). Replies (GivesOccupancy edges run) before after old new result) same replies
