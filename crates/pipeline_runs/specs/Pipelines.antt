-- What a pipeline shows between edges, and how one goes on.
use Rattle.std.specs.Prelude.{ℕ, suc, ◌<◌, ◌≤◌, ◌≡◌, Bool, false, List, [], Option, None, slice_index}
use Rattle.pipeline_time.specs.Cores.{Core}
use Rattle.pipeline_time.specs.Running.{Activation, Running}
use Rattle.pipeline_time.specs.Journal.{Log, stands}
use Rattle.pipeline_time.specs.States.{log_of, after}
use Rattle.pipeline_time.specs.Bits.{Hardware, is_recorded, next_bit, next_word, shown}
use Rattle.pipeline_time.specs.Laws.{TurnComes}
use Rattle.lisa_activation.specs.declared.kept.Queues.{Queues}
use Rattle.lisa_activation.specs.Shown.{Hold, AreStages}
use Rattle.pipeline_runs.specs.declared.tree.Occurrence.{Occurrence}
use Rattle.pipeline_runs.specs.Runs.{Represents}

-- an occurrence and its activator run in one of eight stages, or in none
pub record IsStaged (o : Occurrence) : Type 0 where
  pub above_within : o.above ≤ 8
  pub level_within : o.level ≤ 8

-- each of eight stages has its word
abbrev pub AreWords : List ℕ → (ℕ → ℕ) → Type 0
AreWords words levels = (stage : ℕ) → stage < 8 → slice_index words stage ≡ levels (suc stage)

-- a test tells the bits of so many occurrences in eight stages
abbrev pub AreBits : (ℕ → ℕ → Bool) → ℕ → (ℕ → ℕ → Bool) → Type 0
AreBits test many bits = (stage number : ℕ) → stage < 8 → number < many → test stage number ≡ bits (suc stage) number

-- what lasts, the queues and the words of eight stages show this hardware
pub record ShowsHardware {R : Type 0} (lasting : R) (queues : Queues) (words : List ℕ) (hard : Hardware R) : Type 0 where
  pub memory_is : lasting ≡ hard.memory
  pub holds : Hold queues hard.bits [] []
  pub words_are : AreWords words hard.words

-- nothing stands before the first stage, and nothing was recorded to stand there
pub record NoneBelow (bits : ℕ → ℕ → Bool) (levels : ℕ → ℕ) (made : List Activation) : Type 0 where
  pub no_bit : (number : ℕ) → bits 0 number ≡ false
  pub no_word : levels 0 ≡ 0
  pub none_made : (number : ℕ) → is_recorded made 0 number ≡ false

module _ {R M : Type 0} (core : Core R M) where
  -- hardware with these bits and words, after an edge that ended so
  abbrev pub hardware_ended : (ℕ → ℕ → Bool) → (ℕ → ℕ) → Running M → Hardware R
  hardware_ended bits levels now = record {
    memory = core.close now.moment;
    bits = next_bit core (log_of core now) bits;
    words = next_word core (log_of core now) levels;
  }

  -- an edge's stages, slot and words before it, as memory has them at its end
  pub record Ends (slot : Option ℕ) (held flushed : ℕ) (words : List ℕ) (log : Log) (levels : ℕ → ℕ) : Type 0 where
    pub stages : AreStages log held flushed
    pub slot_is : slot ≡ log.slot
    pub rootless : core.root_level ≡ None → log.slot ≡ None
    pub words_are : AreWords words levels
    pub no_word : levels 0 ≡ 0

  -- an edge after others, with these pins, has come to the turn of a level
  pub record HasCome (first : R) (entries : List (List ℕ)) (pins words : List ℕ) (moment : M) (queues : Queues) (slot : Option ℕ) (level : ℕ) (now : Running M) : Type 0 where
    pub comes : TurnComes core (stands core (after core first entries).past) pins (after core first entries).memory level now
    pub words_are : AreWords words (shown core (after core first entries)).words
    pub seen : Represents moment queues slot (shown core (after core first entries)).bits now
