-- What stands on `out` under each status, and where the status comes from; what is said of it on `err` is left out here.
use Rattle.std.specs.Prelude.{ℕ, List, []}
use Rattle.std.specs.Io.KnownBytes.{Appends}
use Rattle.lisa_io.specs.Causes.{Rose}
use Rattle.lisa_outcomes.specs.declared.status.Refusal.{Refusal}
use Rattle.lisa_outcomes.specs.declared.status.Status.{Status}
use Rattle.lisa_outcomes.specs.declared.status.Status.TheVariants as statuses
use Rattle.lisa_outcomes.specs.Outcomes.{Finished, Refusing, Given}
use Rattle.lisa_outcomes.specs.Refusals.{IsRefusal}
use Rattle.lisa_outcomes.specs.Within.{IsWithin}
use Rattle.command_words.specs.Requests.{Request, Asks}
use Rattle.lisa_cli.specs.Gives.{Gives}
use Rattle.lisa_cli.specs.Worlds.{World, Blamed, IsKnown}

-- what the request gives was written whole
pub record IsDone (w : World) (words : List (List ℕ)) : Type 0 where
  pub request : Request
  pub asks : Asks words request
  pub written : (given : Given) → IsKnown w request given → (text : List ℕ) × Gives given request (Finished text) × Appends w.writes.out w.writes.out_after text

-- the request is refused so
pub record IsRefused (w : World) (words : List (List ℕ)) (refusal : Refusal) : Type 0 where
  pub request : Request
  pub asks : Asks words request
  pub real : IsRefusal refusal
  pub written : (given : Given) → IsKnown w request given → (text : List ℕ) × Gives given request (Refusing refusal text) × Appends w.writes.out w.writes.out_after text

-- the words ask for nothing
pub record IsUsage (w : World) (words : List (List ℕ)) : Type 0 where
  pub none : (request : Request) → Asks words request → ⊥
  pub written : Appends w.writes.out w.writes.out_after []

-- something that the request reads failed
pub record IsReadFault (w : World) (words : List (List ℕ)) : Type 0 where
  pub request : Request
  pub asks : Asks words request
  pub blamed : Blamed w.reads w.writes.out w.writes.out_after request

-- no more was written than what the request gives
abbrev pub KeepsWithin : World → Request → Type 0
KeepsWithin w request = (given : Given) → IsKnown w request given → IsWithin (Gives given request) w.writes.out w.writes.out_after

-- `out` failed
pub record IsCutShort (w : World) (words : List (List ℕ)) : Type 0 where
  pub request : Request
  pub asks : Asks words request
  pub failed : Rose w.writes.out_faults w.writes.out_faults_after
  pub within : KeepsWithin w request

-- memory was wanted for a request
pub record IsNoMemory (w : World) (words : List (List ℕ)) : Type 0 where
  pub request : Request
  pub asks : Asks words request
  pub within : KeepsWithin w request

abbrev pub Stands : World → (words : List (List ℕ)) → Status → Type 0
Stands w words statuses.Done = IsDone w words
Stands w words (statuses.Refused refusal) = IsRefused w words refusal
Stands w words statuses.Usage = IsUsage w words
Stands w words statuses.ReadFault = IsReadFault w words
Stands w words statuses.WriteFault = IsCutShort w words
Stands w words statuses.NoMemory = IsNoMemory w words
