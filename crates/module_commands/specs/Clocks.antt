-- What commands give over the clock of a module.
use Rattle.std.specs.Prelude.{ℕ, List, Option}
use Rattle.lisa_outcomes.specs.Outcomes.{Outcome}
use Rattle.lisa_outcomes.specs.RunFiles.{RunBytes}
use Rattle.engine_commands.specs.declared.tasks.Task.{Task}
use Rattle.engine_commands.specs.Schedules.{schedule_bytes}
use Rattle.engine_commands.specs.Making.{GivesMade, IsCutMade}
use Rattle.module_commands.specs.Designs.{Design, IsDesign, clock_machine, AfterDesign}

-- the most bytes of a module
abbrev pub module_limit : ℕ
module_limit = 134217728

-- what a task gives over the clock of what the files spell
abbrev pub GivesClock : Task → RunBytes → (input : List ℕ) → Outcome → Type 0
GivesClock task bytes input = AfterDesign bytes (λ d. GivesMade task (clock_machine d) d.memories (schedule_bytes bytes.schedule) input)

-- the input failed in a task over the clock of what the files spell
pub record IsCutClock (task : Task) (bytes : RunBytes) (left rest before after : Option (List ℕ)) : Type 0 where
  pub design : Design
  pub spelled : IsDesign bytes design
  pub cut : IsCutMade task (clock_machine design) design.memories (schedule_bytes bytes.schedule) left rest before after
