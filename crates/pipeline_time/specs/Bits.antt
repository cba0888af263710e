-- The hardware: one bit for each level and occurrence, and one word for each level.
use Rattle.std.specs.Prelude.{ℕ, zero, suc, Bool, false, not, ◌&&◌, ◌||◌, List, None, Some, is_some, ◌==◌, if◌then◌else◌}
use Rattle.std.specs.Option.{unwrap_or}
use Rattle.std.specs.List.{list_any, fold}
use Rattle.pipeline_time.specs.Cores.{Core, level_of, is_past, slot_level}
use Rattle.pipeline_time.specs.Running.{Activation, word_below}
use Rattle.pipeline_time.specs.Edges.{Standing, is_held, is_flushed, edge}
use Rattle.pipeline_time.specs.Journal.{Log, stands, stage_word}
use Rattle.pipeline_time.specs.States.{State, log_of}

-- whether the occurrence was recorded at the level in an edge
abbrev pub is_recorded : List Activation → ℕ → ℕ → Bool
is_recorded made level number = list_any (λ activation. activation.occurrence == number && activation.level == level) made

abbrev pub is_open : Log → ℕ → Bool
is_open log level = not (is_held log.stalled level) && not (is_flushed log.flushed level)

pub record Hardware (R : Type 0) : Type 0 where
  pub memory : R
  pub bits : ℕ → ℕ → Bool
  pub words : ℕ → ℕ

module _ {R M : Type 0} (core : Core R M) where
  -- A bit after an edge: what is held and not flushed stays; and what stood or was recorded at the level before, and didn't run there, moves
  -- in where that level was open.
  abbrev pub next_bit : Log → (ℕ → ℕ → Bool) → ℕ → ℕ → Bool
  next_bit log bits zero number = false
  next_bit log bits (suc level) number =
      (bits (suc level) number && (is_held log.stalled (suc level) && not (is_flushed log.flushed (suc level))))
      || (is_open log level && ((bits level number && not (level == level_of core number)) || is_recorded log.made level number))

  -- the word that moves on from a level
  abbrev pub word_from : Log → (ℕ → ℕ) → ℕ → ℕ
  word_from log words level = if level == slot_level core then unwrap_or log.slot 0 else words level

  -- the word of a level after an edge
  abbrev pub next_word : Log → (ℕ → ℕ) → ℕ → ℕ
  next_word log words zero = 0
  next_word log words (suc level) =
      if is_held log.stalled (suc level)
      then (if is_flushed log.flushed (suc level) then 0 else words (suc level))
      else (if is_open log level && not (level == core.stages) then word_from log words level else 0)

  -- what stands by the bits, with the word of its stage where it is past the root
  abbrev pub bits_stand : Hardware R → Standing
  bits_stand hard level number =
      if hard.bits level number then Some (word_below (is_past core number) (hard.words level)) else None

  abbrev pub next_hardware : Hardware R → List ℕ → Hardware R
  next_hardware hard pins =
      let now = edge core (bits_stand hard) pins hard.memory in
      record {
        memory = core.close now.moment;
        bits = next_bit (log_of core now) hard.bits;
        words = next_word (log_of core now) hard.words;
      }

  abbrev pub first_hardware : R → Hardware R
  first_hardware first = record { memory = first; bits = λ level number. false; words = λ level. 0 }

  -- the hardware after edges with these pins
  abbrev pub hardware_after : R → List (List ℕ) → Hardware R
  hardware_after first entries = fold next_hardware (first_hardware first) entries

  -- what hardware shows of a state
  abbrev pub shown : State R → Hardware R
  shown state = record {
    memory = state.memory;
    bits = λ level number. is_some (stands core state.past level number);
    words = stage_word core state.past;
  }
