-- The words at the end of an edge.
use Rattle.std.proofs.Common.{◌≡◌, ℕ, suc, ◌+◌, ◌<◌, Bool, List, length, Option, None, sym, ap, ◌∙◌, arith, ⊎_elim, get_or-set_same, get_or-set_other}
use Rattle.std.specs.Prelude.{slice_index, slice_set}
use Rattle.std.proofs.lemmas.Bool.{cases_eq}
use Rattle.activation_bits.specs.Members.{has}
use Rattle.pipeline_time.specs.Cores.{Core}
use Rattle.pipeline_time.specs.Running.{Running}
use Rattle.pipeline_time.specs.Edges.{is_held, is_flushed}
use Rattle.pipeline_time.specs.Journal.{Log}
use Rattle.pipeline_time.specs.States.{slot_made, log_of}
use Rattle.pipeline_time.specs.Bits.{next_word}
use Rattle.lisa_activation.specs.declared.kept.Queues.{Queues}
use Rattle.lisa_activation.specs.Queued.{IsFinished}
use Rattle.lisa_activation.specs.Shown.{AreQueuesOf}
use Rattle.lisa_activation.proofs.Agree.{finish_agrees}
use Rattle.pipeline_runs.specs.declared.plan.Plan.{Plan}
use Rattle.pipeline_runs.specs.Runs.{Represents}
use Rattle.pipeline_runs.specs.Turns.{IsPlanOf}
use Rattle.pipeline_runs.specs.Pipelines.{AreWords, NoneBelow, Ends, ShowsHardware, hardware_ended}

-- the words as far as a stage
abbrev pub WordsTo : {R M : Type 0} → Core R M → Option ℕ → ℕ → ℕ → List ℕ → List ℕ → ℕ → Type 0
WordsTo core slot held flushed words next stage = (log : Log) (levels : ℕ → ℕ) → Ends core slot held flushed words log levels → (s : ℕ) → s < stage → slice_index next s ≡ next_word core log levels (suc s)

pub one_word : {R M : Type 0} (core : Core R M) (slot : Option ℕ) (held flushed : ℕ) (words next : List ℕ) (stage word : ℕ) → stage < length next → ((log : Log) (levels : ℕ → ℕ) → Ends core slot held flushed words log levels → word ≡ next_word core log levels (suc stage)) → WordsTo core slot held flushed words next stage → WordsTo core slot held flushed words (slice_set next stage word) (stage + 1)
one_word core slot held flushed words next stage word low is far log levels ends s within =
    ⊎_elim
    (λ e. ap (λ n. slice_index (slice_set next stage word) n) e ∙ get_or-set_same next stage word 0 low ∙ is log levels ends ∙ ap (λ n. next_word core log levels (suc n)) (sym e))
    (λ ne. get_or-set_other next stage s word 0 ne ∙ far log levels ends s (omega arith))
    (cases_eq s stage)

module _ {R M : Type 0} (core : Core R M) where
  -- no slot without a root
  rootless : (now : Running M) → core.root_level ≡ None → (log_of core now).slot ≡ None
  rootless now e = ap (λ (r : Option ℕ). slot_made core r now) e

  pub ends_so : (plan : Plan) (planned : IsPlanOf core plan) (moment : M) (queues : Queues) (slot made : Option ℕ) (held flushed : ℕ) (words : List ℕ) (bits : ℕ → ℕ → Bool) (levels : ℕ → ℕ) (now : Running M) → ((stage : ℕ) → stage < 8 → has held stage ≡ is_held (core.stalled moment) (suc stage)) → ((stage : ℕ) → stage < 8 → has flushed stage ≡ is_flushed (core.flushed moment) (suc stage)) → made ≡ slot_made core plan.root_level now → Represents moment queues slot bits now → AreWords words levels → NoneBelow bits levels now.made → Ends core made held flushed words (log_of core now) levels
  ends_so plan planned moment queues slot made held flushed words bits levels now helds flusheds made_is seen words_are below = record {
    stages = record {
      as_held = λ stage low. helds stage low ∙ ap (λ m. is_held (core.stalled m) (suc stage)) seen.moment_is;
      as_flushed = λ stage low. flusheds stage low ∙ ap (λ m. is_flushed (core.flushed m) (suc stage)) seen.moment_is;
    };
    slot_is = made_is ∙ ap (λ (r : Option ℕ). slot_made core r now) planned.root;
    rootless = rootless now;
    words_are = words_are;
    no_word = below.no_word;
  }

  pub ended_so : (before queues : Queues) (moment : M) (lasting : R) (slot made : Option ℕ) (held flushed : ℕ) (words words' : List ℕ) (bits : ℕ → ℕ → Bool) (levels : ℕ → ℕ) (now : Running M) → AreQueuesOf core before → Ends core made held flushed words (log_of core now) levels → IsFinished before queues held flushed → lasting ≡ core.close moment → AreWords words' (next_word core (log_of core now) levels) → Represents moment before slot bits now → NoneBelow bits levels now.made → ShowsHardware lasting queues words' (hardware_ended core bits levels now)
  ended_so before queues moment lasting slot made held flushed words words' bits levels now tables ends finished closed words_are seen below = record {
    memory_is = closed ∙ ap core.close seen.moment_is;
    holds = (finish_agrees core before queues bits (log_of core now) now.first held flushed tables below.no_bit below.none_made ends.stages finished seen.holds).1;
    words_are = words_are;
  }
