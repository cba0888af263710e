-- The headline: the module that `verilog` wrote prints what its description prints, which is what the description means.
use Rattle.std.specs.Prelude.{ℕ, ◌≡◌, ◌<◌, ◌↔◌, Bool, true, false, List, Option, Some, None, length, All}
use Rattle.lisa_tree.specs.Descriptions.{DescriptionTree}
use Rattle.lisa_tree.specs.Texts.{SpellsText}
use Rattle.description_digest.specs.Digests.{digest_of}
use Rattle.machine_parts.specs.Parts.{arrays_of, pins_of}
use Rattle.description_commands.specs.description_sizes.Sizes.{items}
use Rattle.description_commands.specs.lisa_meaning.States.{state_of}
use Rattle.lisa_engine.specs.Memory.{Memory}
use Rattle.lisa_engine.specs.Images.{missing_memory}
use Rattle.lisa_engine.specs.ScheduleLine.{Line}
use Rattle.lisa_engine.specs.State.{State}
use Rattle.lisa_engine.specs.PinValues.{pin_values}
use Rattle.lisa_engine.specs.Text.{state_text, trace_text}
use Rattle.lisa_engine.specs.Machines.{Machine, machine_of}
use Rattle.lisa_board.specs.Boards.{Devices}
use Rattle.lisa_board.specs.Runs.{output}
use Rattle.vcd_trace.specs.VcdText.{vcd_text}
use Rattle.lisa_object.specs.declared.parts.Stamped.{Stamped}
use Rattle.lisa_outcomes.specs.Outcomes.{Outcome, Finished}
use Rattle.lisa_outcomes.specs.RunFiles.{RunBytes}
use Rattle.engine_commands.specs.declared.tasks.Task.{Task}
use Rattle.engine_commands.specs.declared.tasks.Task.TheVariants as tasks
use Rattle.engine_commands.specs.Images.{IsImageOf}
use Rattle.engine_commands.specs.Schedules.{IsSchedule, schedule_bytes}
use Rattle.engine_commands.specs.Boards.{IsBoard}
use Rattle.verilog_command.specs.checked_descriptions.Descriptions.{AfterSpelling}
use Rattle.verilog_command.specs.checked_descriptions.Checked.{IsChecked}
use Rattle.verilog_command.specs.checked_descriptions.DescriptionImages.{IsImageFor}
use Rattle.description_commands.specs.Runs.{GivesRun}
use Rattle.module_commands.specs.Clocks.{GivesClock}
use Rattle.verilog_command.specs.Modules.{WritesVerilog}

-- `verilog` over the bytes of a description gives this text
abbrev pub Writes : (description text : List ℕ) → Type 0
Writes description text = AfterSpelling description WritesVerilog (Finished text)

-- the same image and schedule, with this text in place of the description
abbrev pub over : List ℕ → RunBytes → RunBytes
over text run = record { main = text; image = run.image; schedule = run.schedule }

-- ---- what is printed

-- it is a session of the debugger
abbrev pub is_session : Task → Bool
is_session (tasks.State edges) = false
is_session (tasks.Trace edges) = false
is_session (tasks.Waves edges) = false
is_session (tasks.Board edges) = false
is_session tasks.Answers = true

-- the input is of bytes
abbrev pub AreBytes : List ℕ → Type 0
AreBytes input = All (λ byte. byte < 256) input

-- THE HEADLINE: what `trace` prints over the description, `clocktrace` prints over the text that `verilog` gave; `clock` what `run` prints, `vvcd`
-- what `vcd` prints, and `vboard` what `board` prints with the same input.
abbrev pub ModulesPrintAlike : Type 0
ModulesPrintAlike =
    (run : RunBytes) (text : List ℕ) → Writes run.main text
    → (task : Task) → is_session task ≡ false
    → (input shown : List ℕ) → AreBytes input → GivesRun task run input (Finished shown) → GivesClock task (over text run) input (Finished shown)

-- ---- and it is the description's meaning

-- a description in which no condition is broken, and the memories of an image for it, each of which is an array of it
pub record Meant (run : RunBytes) : Type 0 where
  pub tree : DescriptionTree
  pub width : Option ℕ
  pub spelled : SpellsText run.main tree
  pub checked : IsChecked tree (record { tree = tree; width = width })
  pub memories : List Memory
  pub image : IsImageFor tree run.image memories
  pub found : missing_memory (arrays_of tree) memories ≡ None

-- its machine: the states that the description means, with the image's cells first
abbrev pub meant_machine : {run : RunBytes} → Meant run → Machine
meant_machine m = machine_of (pins_of m.tree) (items m.tree m.width) (arrays_of m.tree) (state_of m.tree m.memories)

-- and the lines of a schedule for its pins
pub record MeantUnder (run : RunBytes) : Type 0 where
  pub meant : Meant run
  pub lines : List Line
  pub schedule : IsSchedule (pins_of meant.tree) (schedule_bytes run.schedule) lines

-- or a board for its items and pins
pub record MeantOn (run : RunBytes) : Type 0 where
  pub meant : Meant run
  pub devices : Devices
  pub board : IsBoard (items meant.tree meant.width) (pins_of meant.tree) (schedule_bytes run.schedule) devices

-- its state after so many edges under the schedule
abbrev pub meant_state : {run : RunBytes} → MeantUnder run → ℕ → State
meant_state m edge = state_of m.meant.tree m.meant.memories (pin_values (length (pins_of m.meant.tree)) m.lines edge)

abbrev pub TracesAreMeant : Type 0
TracesAreMeant =
    (run : RunBytes) (edges : ℕ) (input shown : List ℕ) → GivesRun (tasks.Trace edges) run input (Finished shown)
    → (m : MeantUnder run) × (shown ≡ trace_text (items m.meant.tree m.meant.width) (arrays_of m.meant.tree) (meant_state m) edges)

abbrev pub StatesAreMeant : Type 0
StatesAreMeant =
    (run : RunBytes) (edges : ℕ) (input shown : List ℕ) → GivesRun (tasks.State edges) run input (Finished shown)
    → (m : MeantUnder run) × (shown ≡ state_text (items m.meant.tree m.meant.width) (arrays_of m.meant.tree) edges (meant_state m edges))

abbrev pub WavesAreMeant : Type 0
WavesAreMeant =
    (run : RunBytes) (edges : ℕ) (input shown : List ℕ) → GivesRun (tasks.Waves edges) run input (Finished shown)
    → (m : MeantUnder run) × (shown ≡ vcd_text (items m.meant.tree m.meant.width) (λ k. (meant_state m k).items) edges)

abbrev pub BoardsAreMeant : Type 0
BoardsAreMeant =
    (run : RunBytes) (edges : ℕ) (input shown : List ℕ) → GivesRun (tasks.Board edges) run input (Finished shown)
    → (m : MeantOn run) × (shown ≡ output (meant_machine m.meant) m.devices input edges)

-- ---- what is refused

-- an image that isn't left out is for the description
abbrev pub IsOwnImage : RunBytes → Type 0
IsOwnImage run = (d : DescriptionTree) (image : Stamped) → SpellsText run.main d → IsImageOf run.image (Some image) → image.digest ≡ digest_of d

-- with such an image, or without one, both give the same outcomes, refusals too
abbrev pub ModulesDoAlike : Type 0
ModulesDoAlike =
    (run : RunBytes) (text : List ℕ) → Writes run.main text → IsOwnImage run
    → (task : Task) → is_session task ≡ false
    → (input : List ℕ) (outcome : Outcome) → AreBytes input → GivesRun task run input outcome ↔ GivesClock task (over text run) input outcome
