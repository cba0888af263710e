-- What stands after a read fault of the input stays where nothing more is put.
use Rattle.std.proofs.Common.{List, ℕ, Option}
use Rattle.std.specs.Io.KnownBytes.{Keeps}
use Rattle.lisa_outcomes.specs.RunFiles.{RunBytes}
use Rattle.engine_commands.specs.declared.tasks.Task.{Task}
use Rattle.engine_commands.specs.Schedules.{schedule_bytes}
use Rattle.engine_commands.proofs.CutOff.{cut_made_kept}
use Rattle.checked_descriptions.specs.Checked.{Checked}
use Rattle.description_commands.specs.Runs.{described_machine, IsCutChecked, IsCutRun}

checked_kept : (task : Task) (c : Checked) (bytes : RunBytes) (left rest before after sent : Option (List ℕ)) → Keeps after sent → IsCutChecked task c bytes left rest before after → IsCutChecked task c bytes left rest before sent
checked_kept task c bytes left rest before after sent keeps run = record {
  memories = run.memories;
  image = run.image;
  cut = cut_made_kept task (described_machine c run.memories) run.memories (schedule_bytes bytes.schedule) left rest before after sent keeps run.cut;
}

pub run_kept : (task : Task) (bytes : RunBytes) (left rest before after sent : Option (List ℕ)) → Keeps after sent → IsCutRun task bytes left rest before after → IsCutRun task bytes left rest before sent
run_kept task bytes left rest before after sent keeps run = record {
  tree = run.tree;
  spelled = run.spelled;
  cut = record { checked = run.cut.checked; is = run.cut.is; cut = checked_kept task run.cut.checked bytes left rest before after sent keeps run.cut.cut };
}
