-- What each task gives over a machine, under a schedule or on a board.
use Rattle.std.specs.Prelude.{ℕ, ◌≡◌, ◌≤◌, Bool, true, false, List, [], length, Option, Some}
use Rattle.std.specs.Io.KnownBytes.{Appends}
use Rattle.lisa_io.specs.Causes.{Rose}
use Rattle.lisa_engine.specs.ScheduleLine.{Line}
use Rattle.lisa_engine.specs.Text.{state_text, trace_text}
use Rattle.lisa_engine.specs.Machines.{Machine, course_of, state_at}
use Rattle.lisa_engine.specs.declared.parts.Item.{Item}
use Rattle.lisa_board.specs.Boards.{Devices}
use Rattle.vcd_trace.specs.VcdText.{vcd_text}
use Rattle.lisa_outcomes.specs.declared.status.Refusal.{Refusal}
use Rattle.lisa_outcomes.specs.Outcomes.{Outcome, Finished, After}
use Rattle.engine_commands.specs.declared.tasks.Task.{Task}
use Rattle.engine_commands.specs.declared.tasks.Task.TheVariants as tasks
use Rattle.engine_commands.specs.Schedules.{IsSchedule, IsNoSchedule}
use Rattle.engine_commands.specs.Boards.{IsBoard, IsNoBoard, board_outcome}
use Rattle.engine_commands.specs.Sessions.{session_outcome, IsCutOff}

-- it takes the input
abbrev pub takes_input : Task → Bool
takes_input (tasks.State edges) = false
takes_input (tasks.Trace edges) = false
takes_input (tasks.Waves edges) = false
takes_input (tasks.Board edges) = true
takes_input tasks.Answers = true

-- the input is told, where the task takes it
abbrev pub IsHeard : Task → Option (List ℕ) → List ℕ → Type 0
IsHeard task left input = takes_input task ≡ true → left ≡ Some input

-- the third file of its run is a board, and no schedule
abbrev pub is_on_board : Task → Bool
is_on_board (tasks.State edges) = false
is_on_board (tasks.Trace edges) = false
is_on_board (tasks.Waves edges) = false
is_on_board (tasks.Board edges) = true
is_on_board tasks.Answers = false

-- what drives the pins: the devices of a board, or the lines of a schedule
abbrev pub Driver : (board : Bool) → Type 0
Driver true = Devices
Driver false = List Line

-- the one that the bytes of the third file write for these items and pins
abbrev pub IsDriver : (board : Bool) → (items pins : List Item) → List ℕ → Driver board → Type 0
IsDriver true items pins bytes devices = IsBoard items pins bytes devices
IsDriver false items pins bytes lines = IsSchedule pins bytes lines

abbrev pub IsNoDriver : (board : Bool) → (items pins : List Item) → List ℕ → Refusal → Type 0
IsNoDriver true items pins bytes refusal = IsNoBoard items pins bytes refusal
IsNoDriver false items pins bytes refusal = IsNoSchedule pins bytes refusal

-- what a task gives over a machine that is driven so: the text of the state after some edges; that of the first state, and of what each
-- edge changes; the value change dump of the items; what the board's console prints; or the answers to the input
abbrev pub task_outcome : (task : Task) → Machine → Driver (is_on_board task) → (input : List ℕ) → Outcome
task_outcome (tasks.State edges) m lines input = Finished (state_text m.items m.arrays edges (state_at (course_of m lines) edges))
task_outcome (tasks.Trace edges) m lines input = Finished (trace_text m.items m.arrays (state_at (course_of m lines)) edges)
task_outcome (tasks.Waves edges) m lines input = Finished (vcd_text m.items (λ k. (state_at (course_of m lines) k).items) edges)
task_outcome (tasks.Board edges) m devices input = board_outcome m devices edges input
task_outcome tasks.Answers m lines input = session_outcome (course_of m lines) input

abbrev pub GivesTask : (task : Task) → Machine → (input : List ℕ) → Driver (is_on_board task) → Outcome → Type 0
GivesTask task m input driver outcome = outcome ≡ task_outcome task m driver input

-- the same behind the reading of the third file
abbrev pub GivesUnder : Task → Machine → (third input : List ℕ) → Outcome → Type 0
GivesUnder task m third input =
    After (IsDriver (is_on_board task) m.items m.pins third) (IsNoDriver (is_on_board task) m.items m.pins third) (GivesTask task m input)

-- the input failed, which the task takes
abbrev pub HasFailed : Task → (first last : ℕ) → Type 0
HasFailed task first last = (takes_input task ≡ true) × Rose first last

-- then nothing was written on a board, and a session is cut off there
abbrev pub IsCutShort : (board : Bool) → Machine → Driver board → (left rest before after : Option (List ℕ)) → Type 0
IsCutShort true m devices left rest before after = Appends before after []
IsCutShort false m lines left rest before after = IsCutOff (course_of m lines) left rest before after

-- the same under what the third file writes
abbrev pub IsCutUnder : Task → Machine → (third : List ℕ) → (left rest before after : Option (List ℕ)) → Type 0
IsCutUnder task m third left rest before after =
    (driver : Driver (is_on_board task)) × IsDriver (is_on_board task) m.items m.pins third driver × IsCutShort (is_on_board task) m driver left rest before after

-- ---- in code

-- its items are few enough for a dump, and its pins for a board
pub record IsSmall (m : Machine) : Type 0 where
  pub few_items : length m.items ≤ 8192
  pub few_pins : length m.pins ≤ 64
