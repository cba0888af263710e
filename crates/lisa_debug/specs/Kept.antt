-- What a session keeps of the edges that it made.
use Rattle.std.specs.Prelude.{ℕ, ◌<◌, ◌==◌, ◌++◌, ◌∷◌, [], take, if◌then◌else◌, ◌≤◌, ◌≡◌, List, length, slice_set, slice_index_or, fold, All}
use Rattle.std.proofs.Common.{suc}
use Rattle.lisa_engine.specs.State.{State}
use Rattle.lisa_engine.specs.PinValues.{pins_at, after_lines, IsPlaceAfter, IsFor}
use Rattle.lisa_engine.specs.Touches.{LeadsBack, Tracks}
use Rattle.lisa_engine.specs.Machines.{Course, entries_to, state_at}
use Rattle.lisa_engine.specs.declared.parts.Touch.{Touch}
use Rattle.lisa_debug.specs.declared.journal.Change.{Change}
use Rattle.lisa_debug.specs.declared.journal.Entry.{Entry}
use Rattle.lisa_debug.specs.declared.journal.Journal.{Journal}

abbrev pub put_change : List ℕ → Change → List ℕ
put_change values change = slice_set values change.item change.before

-- the values with those before put back
abbrev pub restored : List Change → List ℕ → List ℕ
restored changes values = fold put_change values changes

-- one more item, where its value changed
abbrev pub with_change : List Change → ℕ → ℕ → ℕ → List Change
with_change changes item before now = if now == before then changes else changes ++ record { item = item; before = before } ∷ []

-- the pins have the values of an edge, and the lines from a place on are of later edges
pub record IsPlayed (course : Course) (edge place : ℕ) (given : List ℕ) : Type 0 where
  pub after : IsPlaceAfter course.lines edge place
  pub values : given ≡ after_lines (length course.machine.pins) (take place course.lines)

-- an edge was made after so many others: the row has the items' values before it, and the touches track its cells
pub record HasMade (course now : Course) (before after : State) (touches : List Touch) (edge : ℕ) (row : List ℕ) : Type 0 where
  pub same : now ≡ course
  pub kept : row ≡ before.items
  pub led : after ≡ state_at course (suc edge)
  pub tracks : Tracks course.machine.arrays before.cells after.cells touches

-- what is kept of the edge that follows `before` edges leads back over it
pub record LeadsOver (course : Course) (before : ℕ) (entry : Entry) : Type 0 where
  pub places : All (λ change. change.item < length course.machine.items) entry.changes.items
  pub back : LeadsBack course.machine (restored entry.changes.items (state_at course (suc before)).items) entry.touches.items
      (entries_to course before) (pins_at (length course.machine.pins) course.lines (suc before))

-- the present state is the one after as many edges as there are entries, and each entry leads back over its edge
pub record IsLive (course : Course) (present : State) (journal : Journal) : Type 0 where
  pub schedule : IsFor course.machine.pins course.lines
  pub now : present ≡ state_at course (length journal.entries.items)
  pub limit : length journal.entries.items ≤ 10000
  pub entries : (k : ℕ) (entry : Entry) → k < length journal.entries.items → LeadsOver course k (slice_index_or journal.entries.items k entry)
  pub row : length journal.row.items ≡ length course.machine.items
  pub room : length journal.pins.items ≡ length course.machine.pins

-- it stands after so many edges, on the same course as before
pub record CameTo (course now : Course) (present : State) (journal : Journal) (position : ℕ) : Type 0 where
  pub same : now ≡ course
  pub live : IsLive now present journal
  pub stands : length journal.entries.items ≡ position
