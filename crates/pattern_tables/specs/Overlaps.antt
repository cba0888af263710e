-- Which plain forms overlap, and which aliases are covered, said of frames.
use Rattle.std.specs.Prelude.{◌<◌, ◌≤◌, ℕ, Bool, List, length, Option, MatchOption}
use Rattle.instruction_trees.specs.Bits.{Frame, Has, Covers}
use Rattle.pattern_tables.specs.Patterns.{frame_at, IsPlain, IsAlias}
use Rattle.pattern_tables.specs.declared.overlaps.Overlap.{Overlap}

-- two different plain forms with one word, the earlier one first
pub record IsOverlap (frames : List Frame) (plain : List Bool) (i j w : ℕ) : Type 0 where
  pub order : i < j
  pub within : j < length frames
  pub first : IsPlain plain i
  pub second : IsPlain plain j
  pub one : Has w (frame_at frames i)
  pub other : Has w (frame_at frames j)

-- of all overlaps it has the least first form, and with it the least second one
pub record IsFirstOverlap (frames : List Frame) (plain : List Bool) (o : Overlap) : Type 0 where
  pub overlap : IsOverlap frames plain o.first o.second o.word
  pub first : (i j w : ℕ) → IsOverlap frames plain i j w → o.first ≤ i
  pub second : (j w : ℕ) → IsOverlap frames plain o.first j w → o.second ≤ j

-- there is none, or this is the first
abbrev pub AnswersOverlap : List Frame → List Bool → Option Overlap → Type 0
AnswersOverlap frames plain result = MatchOption result ((i j w : ℕ) → IsOverlap frames plain i j w → ⊥) (IsFirstOverlap frames plain)

-- some plain form covers the form at this place
pub record IsCovered (frames : List Frame) (plain : List Bool) (k : ℕ) : Type 0 where
  pub by_form : ℕ
  pub within : by_form < length frames
  pub is_plain : IsPlain plain by_form
  pub covers : Covers (frame_at frames by_form) (frame_at frames k)

pub record IsFirstUncovered (frames : List Frame) (plain : List Bool) (k : ℕ) : Type 0 where
  pub within : k < length frames
  pub alias : IsAlias plain k
  pub uncovered : IsCovered frames plain k → ⊥
  pub first : (j : ℕ) → j < k → IsAlias plain j → IsCovered frames plain j

-- each alias is covered, or this is the first that isn't
abbrev pub AnswersUncovered : List Frame → List Bool → Option ℕ → Type 0
AnswersUncovered frames plain result = MatchOption result ((k : ℕ) → k < length frames → IsAlias plain k → IsCovered frames plain k) (IsFirstUncovered frames plain)
