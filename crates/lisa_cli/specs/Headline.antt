-- What the program promises of a run, whole.
use Rattle.std.specs.Prelude.{ℕ, ◌≡◌, ◌≤◌, ◌⊎◌, false, true, List}
use Rattle.std.specs.Io.KnownBytes.{Appends}
use Rattle.lisa_io.specs.Causes.{Rose}
use Rattle.lisa_io.specs.Contents.{AppendsFront}
use Rattle.lisa_outcomes.specs.declared.status.Refusal.{Refusal}
use Rattle.lisa_outcomes.specs.declared.status.Status.{Status}
use Rattle.lisa_outcomes.specs.declared.status.Status.TheVariants as statuses
use Rattle.lisa_outcomes.specs.Outcomes.{Finished, Refusing, Given}
use Rattle.command_words.specs.Requests.{Request, Asks, reads_input}
use Rattle.lisa_cli.specs.Gives.{Gives}
use Rattle.refusal_lines.specs.Says.{status_text, has_line}
use Rattle.lisa_cli.specs.Runs.{Stands}
use Rattle.lisa_cli.specs.Worlds.{World, IsKnown, NoneFailed}

abbrev pub IsSomeRefusal : Status → Type 0
IsSomeRefusal status = (refusal : Refusal) × (status ≡ statuses.Refused refusal)

-- the line of another status that stands was to be told, and `err` failed within it
pub record IsUntold (w : World) (words : List (List ℕ)) : Type 0 where
  pub status : Status
  pub stands : Stands w words status
  pub has : has_line status ≡ true
  pub failed : Rose w.writes.err_faults w.writes.err_faults_after
  pub said : AppendsFront w.writes.err w.writes.err_after (status_text status)

-- what the files hold stays
pub record IsKept (w : World) : Type 0 where
  pub held : w.reads.held_after ≡ w.reads.held
  -- and no count of faults falls
  pub files : (name : List ℕ) → w.reads.file_faults name ≤ w.reads.file_faults_after name
  pub input : w.reads.input_faults ≤ w.reads.input_faults_after
  pub out : w.writes.out_faults ≤ w.writes.out_faults_after
  pub err : w.writes.err_faults ≤ w.writes.err_faults_after

-- a run with these words answered this status
pub record IsAnswer (w : World) (words : List (List ℕ)) (status : Status) : Type 0 where
  -- the status stands: its cause is there, and `out` holds what it says; and its line was put on `err` whole, which is empty after
  -- Done and after a failure of `out`; or else `err` failed within the line of another status that stands
  pub answer : Stands w words status × Appends w.writes.err w.writes.err_after (status_text status) ⊎ (status ≡ statuses.WriteFault) × IsUntold w words
  -- a request that gives a text is done, where nothing failed and memory sufficed
  pub done_always : (request : Request) (given : Given) (text : List ℕ) → Asks words request → IsKnown w request given → Gives given request (Finished text)
      → NoneFailed w request → (status ≡ statuses.Done) ⊎ (status ≡ statuses.NoMemory)
  -- one that gives a refusal is refused, where nothing failed and memory sufficed
  pub refused_always : (request : Request) (given : Given) (refusal : Refusal) (text : List ℕ) → Asks words request → IsKnown w request given → Gives given request (Refusing refusal text)
      → NoneFailed w request → IsSomeRefusal status ⊎ (status ≡ statuses.NoMemory)
  -- words that ask for nothing are told so, unless `err` failed
  pub usage_always : ((request : Request) → Asks words request → ⊥) → (Rose w.writes.err_faults w.writes.err_faults_after → ⊥) → status ≡ statuses.Usage
  -- what was put is sent on for good after Done and after a refusal
  pub sent : (status ≡ statuses.Done) ⊎ IsSomeRefusal status → w.writes.out_sent ≡ w.writes.out_after
  -- and after a read fault, unless `out` failed
  pub sent_read : status ≡ statuses.ReadFault → (w.writes.out_sent ≡ w.writes.out_after) ⊎ Rose w.writes.out_faults w.writes.out_faults_after
  -- the input is left as it is by what doesn't read it
  pub input : ((request : Request) → Asks words request → reads_input request ≡ false)
      → (w.reads.input_after ≡ w.reads.input) × (w.reads.input_faults_after ≡ w.reads.input_faults)
  -- the files hold what they held, and no count falls
  pub kept : IsKept w
