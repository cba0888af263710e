-- What a sink tells that gathers bytes in a room.
use Rattle.std.specs.Prelude.{ℕ, List, [], take, drop, Option, Some, None, refl}
use Rattle.std.proofs.Common.{sym}
use Rattle.std.proofs.lemmas.List.{append-nil}
use Rattle.std.specs.Io.KnownBytes.{append_known}
use Rattle.lisa_io.specs.Contents.{IsFront}

-- the known bytes of the sink below, and then what stands in the room from one place to another
abbrev pub gathered : Option (List ℕ) → List ℕ → ℕ → ℕ → Option (List ℕ)
gathered below room sent filled = append_known below (drop sent (take filled room))

-- the bytes below stand in front
pub front_of_gathered : (below : Option (List ℕ)) (room : List ℕ) (sent filled : ℕ) → IsFront below (gathered below room sent filled)
front_of_gathered None room sent filled = tt
front_of_gathered (Some xs) room sent filled = (drop sent (take filled room), refl)

-- known bytes are a front of themselves
pub front_of_itself : (known : Option (List ℕ)) → IsFront known known
front_of_itself None = tt
front_of_itself (Some xs) = ([], sym (append-nil xs))
