-- What stands after a read fault of the input stays where nothing more is put.
use Rattle.std.proofs.Common.{List, ℕ, Option}
use Rattle.std.specs.Io.KnownBytes.{Keeps}
use Rattle.lisa_outcomes.specs.RunFiles.{RunBytes}
use Rattle.engine_commands.specs.declared.tasks.Task.{Task}
use Rattle.engine_commands.specs.Schedules.{schedule_bytes}
use Rattle.engine_commands.proofs.CutOff.{cut_made_kept}
use Rattle.module_commands.specs.Designs.{clock_machine}
use Rattle.module_commands.specs.Clocks.{IsCutClock}

pub clock_kept : (task : Task) (bytes : RunBytes) (left rest before after sent : Option (List ℕ)) → Keeps after sent → IsCutClock task bytes left rest before after → IsCutClock task bytes left rest before sent
clock_kept task bytes left rest before after sent keeps run = record {
  design = run.design;
  spelled = run.spelled;
  cut = cut_made_kept task (clock_machine run.design) run.design.memories (schedule_bytes bytes.schedule) left rest before after sent keeps run.cut;
}
