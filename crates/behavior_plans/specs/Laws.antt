-- What runs leave as it is.
use Rattle.std.specs.Prelude.{ℕ, ◌≡◌, List, length, map}
use Rattle.lisa_words.specs.declared.words.Kind.{Kind}
use Rattle.typed_values.specs.Words.{TypedWord}
use Rattle.behavior_plans.specs.Holdings.{Holdings}
use Rattle.behavior_plans.specs.Acts.{ActTrees}
use Rattle.behavior_plans.specs.Effects.{acts_effect}

-- the kind and the width of a word
abbrev pub word_type : TypedWord → Kind × ℕ
word_type w = (w.kind, w.width)

-- Registers keep their types, and all tables their lengths. What was there as the edge began stays.
pub record KeepsTypes (old new : Holdings) : Type 0 where
  pub registers : map word_type new.registers ≡ map word_type old.registers
  pub kept : new.kept ≡ old.kept
  pub pins : new.pins ≡ old.pins
  pub slots : length new.slots ≡ length old.slots
  pub cells : map (λ (row : List ℕ). length row) new.cells ≡ map (λ (row : List ℕ). length row) old.cells
  pub decoded : new.decoded ≡ old.decoded
  pub fields : new.fields ≡ old.fields
  pub outs : length new.outs ≡ length old.outs
  pub stalled : length new.stalled ≡ length old.stalled
  pub flushed : length new.flushed ≡ length old.flushed

abbrev pub ActsKeepTypes : ActTrees → Holdings → Type 0
ActsKeepTypes all h = KeepsTypes h (acts_effect all h)
