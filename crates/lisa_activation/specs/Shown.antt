-- The queues against the bits of the hardware.
use Rattle.std.specs.Prelude.{ℕ, suc, ◌<◌, ◌≡◌, Bool, false, ◌&&◌, List, [], is_some, nat_eq}
use Rattle.activation_bits.specs.Members.{has}
use Rattle.pipeline_time.specs.Cores.{Core, level_of, above_of}
use Rattle.pipeline_time.specs.Running.{Activation, Running, activate}
use Rattle.pipeline_time.specs.Edges.{is_held, is_flushed, word_in, waiting}
use Rattle.pipeline_time.specs.Journal.{Log}
use Rattle.pipeline_time.specs.Bits.{Hardware, is_recorded, next_bit, bits_stand}
use Rattle.lisa_activation.specs.Queued.{standing, entered, first, runs_in, above, count, is_due, IsEntered, IsFinished}
use Rattle.lisa_activation.specs.declared.kept.Queues.{Queues}

-- The queues hold what stands by these bits of eight stages, and what an edge recorded so far.
pub record Hold (queues : Queues) (bits : ℕ → ℕ → Bool) (made : List Activation) (pairs : List (ℕ × ℕ)) : Type 0 where
  pub stand : (stage number : ℕ) → stage < 8 → standing queues stage number ≡ bits (suc stage) number
  pub recorded : (stage number : ℕ) → stage < 8 → entered queues stage number ≡ is_recorded made (suc stage) number
  pub outside : (number : ℕ) → first queues number ≡ is_some (word_in number pairs)

-- a bit for each of eight stages that was held, and that was flushed
pub record AreStages (log : Log) (held flushed : ℕ) : Type 0 where
  pub as_held : (stage : ℕ) → stage < 8 → has held stage ≡ is_held log.stalled (suc stage)
  pub as_flushed : (stage : ℕ) → stage < 8 → has flushed stage ≡ is_flushed log.flushed (suc stage)

module _ {R M : Type 0} (core : Core R M) where
  -- the queues are of the occurrences of a core
  pub record AreQueuesOf (queues : Queues) : Type 0 where
    pub run : (stage number : ℕ) → stage < 8 → runs_in queues stage number ≡ nat_eq (level_of core number) (suc stage)
    pub below : (number : ℕ) → number < count queues → above queues number ≡ above_of core number

  -- What is due in a stage by the queues is due in its level by the bits.
  abbrev pub DueIsDue : Type 0
  DueIsDue =
      (queues : Queues) (hard : Hardware R) (now : Running M) (stage number : ℕ)
      → AreQueuesOf queues
      → Hold queues hard.bits now.made now.first
      → stage < 8
      → is_due queues stage number ≡ (nat_eq (level_of core number) (suc stage) && is_some (waiting core (bits_stand core hard) (suc stage) now number))

  -- An occurrence that is entered is recorded under its activator.
  abbrev pub EnterIsActivate : Type 0
  EnterIsActivate =
      (before after : Queues) (bits : ℕ → ℕ → Bool) (now : Running M) (number word : ℕ)
      → AreQueuesOf before
      → number < count before
      → IsEntered before after number
      → Hold before bits now.made now.first
      → AreQueuesOf after × Hold after bits (activate core (above_of core number) number word now).made (activate core (above_of core number) number word now).first

  -- What the queues hold at the end of an edge are the next bits. No stage comes before the first, so no bit stands at level 0 and nothing
  -- was recorded to stand there.
  abbrev pub FinishIsNextBit : Type 0
  FinishIsNextBit =
      (before after : Queues) (bits : ℕ → ℕ → Bool) (log : Log) (pairs : List (ℕ × ℕ)) (held flushed : ℕ)
      → AreQueuesOf before
      → ((number : ℕ) → bits 0 number ≡ false)
      → ((number : ℕ) → is_recorded log.made 0 number ≡ false)
      → AreStages log held flushed
      → IsFinished before after held flushed
      → Hold before bits log.made pairs
      → AreQueuesOf after × Hold after (next_bit core log bits) [] []
