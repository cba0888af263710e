-- What a task is done over: the machine of a description or of a module, with an image, and what drives it, the lines of a schedule or a board.
use Rattle.std.specs.Prelude.{◌≡◌, List, None}
use Rattle.lisa_engine.specs.Memory.{Memory}
use Rattle.lisa_engine.specs.Images.{missing_memory}
use Rattle.lisa_outcomes.specs.RunFiles.{RunBytes}
use Rattle.lisa_engine.specs.Machines.{Machine}
use Rattle.engine_commands.specs.declared.tasks.Task.{Task}
use Rattle.engine_commands.specs.Schedules.{schedule_bytes}
use Rattle.engine_commands.specs.Tasks.{Driver, is_on_board, IsDriver}
use Rattle.verilog_command.specs.checked_descriptions.Checked.{Checked}
use Rattle.verilog_command.specs.checked_descriptions.DescriptionImages.{IsImageFor}
use Rattle.generator_commands.specs.description_commands.Runs.{described_machine}
use Rattle.module_commands.specs.Designs.{Design, IsDesign, clock_machine}
use Rattle.verdict_promises.specs.Firsts.{IsAcceptedAs}

-- the bytes are accepted as a description, whose states with the cells of its image these are
pub record IsSimulated (task : Task) (bytes : RunBytes) (m : Machine) (driver : Driver (is_on_board task)) : Type 0 where
  pub checked : Checked
  pub accepted : IsAcceptedAs bytes.main checked
  pub memories : List Memory
  pub image : IsImageFor checked.tree bytes.image memories
  pub found : missing_memory (described_machine checked memories).arrays memories ≡ None
  pub machine : m ≡ described_machine checked memories
  pub driven : IsDriver (is_on_board task) m.items m.pins (schedule_bytes bytes.schedule) driver

-- the bytes are accepted as a module, whose states with the cells of the image these are
pub record IsClocked (task : Task) (bytes : RunBytes) (m : Machine) (driver : Driver (is_on_board task)) : Type 0 where
  pub design : Design
  pub is : IsDesign bytes design
  pub found : missing_memory (clock_machine design).arrays design.memories ≡ None
  pub machine : m ≡ clock_machine design
  pub driven : IsDriver (is_on_board task) m.items m.pins (schedule_bytes bytes.schedule) driver
