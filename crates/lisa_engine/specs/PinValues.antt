-- The values that a schedule gives to pins.
use Rattle.std.specs.Prelude.{ℕ, ◌<◌, ◌≤◌, ◌^◌, List, [], ◌∷◌, ◌++◌, length, replicate, slice_set, slice_index_or, nat_le, filter, fold, All, AllPairs}
use Rattle.std.proofs.Common.{zero, suc}
use Rattle.std.specs.List.{flat_map}
use Rattle.lisa_engine.specs.ScheduleLine.{Line}
use Rattle.lisa_engine.specs.declared.parts.Item.{Item}
use Rattle.lisa_engine.specs.declared.parts.Setting.{Setting}

abbrev pub set_pin : List ℕ → Setting → List ℕ
set_pin values setting = slice_set values setting.pin setting.value

-- all pins start at 0, and each setting of the lines, in order, gives its pin another value
abbrev pub after_lines : ℕ → List Line → List ℕ
after_lines pins lines = fold set_pin (replicate pins 0) (flat_map (λ line. line.settings) lines)

-- the lines that hold in an edge: those of this edge and of the edges before it
abbrev pub lines_until : List Line → ℕ → List Line
lines_until lines edge = filter (λ line. nat_le line.edge edge) lines

-- the values of so many pins in an edge
abbrev pub pins_at : ℕ → List Line → ℕ → List ℕ
pins_at pins lines edge = after_lines pins (lines_until lines edge)

-- their values in the edges 1 to n, an entry for each
abbrev pub pin_values : ℕ → List Line → ℕ → List (List ℕ)
pin_values pins lines zero = []
pin_values pins lines (suc n) = pin_values pins lines n ++ pins_at pins lines (suc n) ∷ []

-- the edges of the lines rise, and each setting is of one of so many pins
pub record IsPlayable (pins : ℕ) (lines : List Line) : Type 0 where
  pub rising : AllPairs (λ a b. a.edge < b.edge) lines
  pub places : All (λ line. All (λ setting. setting.pin < pins) line.settings) lines

-- the lines before a place are those that hold in an edge
pub record IsPlaceAfter (lines : List Line) (edge place : ℕ) : Type 0 where
  pub within : place ≤ length lines
  pub before : (k : ℕ) (line : Line) → k < place → (slice_index_or lines k line).edge ≤ edge
  pub after : (k : ℕ) (line : Line) → place ≤ k → k < length lines → edge < (slice_index_or lines k line).edge

-- it can be played on these pins, and each value fits its pin
pub record IsFor (pins : List Item) (lines : List Line) : Type 0 where
  pub playable : IsPlayable (length pins) lines
  pub fitting : (pin : Item) → All (λ line. All (λ setting. setting.value < 2 ^ (slice_index_or pins setting.pin pin).width) line.settings) lines
