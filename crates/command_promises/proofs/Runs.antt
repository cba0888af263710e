-- What runs over descriptions and modules give.
use Rattle.std.proofs.Common.{◌≡◌, ℕ, List, refl, sym, subst}
use Rattle.lisa_tree.specs.Descriptions.{DescriptionTree}
use Rattle.lisa_tree.specs.Texts.{SpellsText}
use Rattle.lisa_outcomes.specs.Outcomes.{Finished, passed}
use Rattle.lisa_outcomes.specs.RunFiles.{RunBytes}
use Rattle.engine_commands.specs.declared.tasks.Task.{Task}
use Rattle.lisa_engine.specs.Machines.{Machine}
use Rattle.engine_commands.specs.Schedules.{schedule_bytes}
use Rattle.engine_commands.specs.Making.{GivesMade}
use Rattle.verilog_command.specs.checked_descriptions.Checked.{Checked, IsChecked, IsFaulty, AfterChecks}
use Rattle.verilog_command.specs.checked_descriptions.Descriptions.{IsUnread}
use Rattle.verilog_command.specs.checked_descriptions.DescriptionImages.{IsImageFor, IsNoImageFor}
use Rattle.generator_commands.specs.description_commands.Runs.{described_machine, GivesChecked, GivesRun}
use Rattle.module_commands.specs.Designs.{IsDesign, IsNoDesign, clock_machine}
use Rattle.module_commands.specs.Clocks.{GivesClock}
use Rattle.command_promises.specs.Runs.{IsSimulated, IsClocked}
use Rattle.engine_commands.specs.Tasks.{Driver, is_on_board, task_outcome}
use Rattle.command_promises.proofs.Afters.{found_by}
use Rattle.command_promises.proofs.Tasks.{made_given, made_finished}

pub runs_shown : (task : Task) (bytes : RunBytes) (input : List ℕ) (m : Machine) (driver : Driver (is_on_board task)) → IsSimulated task bytes m driver → GivesRun task bytes input (task_outcome task m driver input)
runs_shown task bytes input m driver x =
    passed {a = x.checked.tree} x.accepted.spelled
    (passed {a = x.checked} x.accepted.checked
    (passed {a = x.memories} x.image (made_given task m (described_machine x.checked x.memories) x.memories (schedule_bytes bytes.schedule) input driver x.found x.machine x.driven)))

pub runs_only : (task : Task) (bytes : RunBytes) (input text : List ℕ) → GivesRun task bytes input (Finished text)
    → (m : Machine) × (driver : Driver (is_on_board task)) × IsSimulated task bytes m driver × (task_outcome task m driver input ≡ Finished text)
runs_only task bytes input text gives =
    let read = found_by (SpellsText bytes.main) (IsUnread bytes.main) (λ d. AfterChecks d (GivesChecked task bytes input)) text gives in
    let checked = found_by (IsChecked read.0) (IsFaulty read.0) (GivesChecked task bytes input) text read.2 in
    let c : Checked = checked.0 in
    let image = found_by (IsImageFor c.tree bytes.image) (IsNoImageFor c.tree bytes.image)
    (λ memories. GivesMade task (described_machine c memories) memories (schedule_bytes bytes.schedule) input) text checked.2 in
    let made = made_finished task (described_machine c image.0) image.0 (schedule_bytes bytes.schedule) input text image.2 in
    let simulated : IsSimulated task bytes (described_machine c image.0) made.driver = record {
      checked = c;
      accepted = record { spelled = subst (SpellsText bytes.main) (sym checked.1.tree) read.1; checked = subst (λ (z : DescriptionTree). IsChecked z c) (sym checked.1.tree) checked.1 };
      memories = image.0;
      image = image.1;
      found = made.found;
      machine = refl;
      driven = made.read;
    } in
    (described_machine c image.0, made.driver, simulated, made.is)

pub clocks_shown : (task : Task) (bytes : RunBytes) (input : List ℕ) (m : Machine) (driver : Driver (is_on_board task)) → IsClocked task bytes m driver → GivesClock task bytes input (task_outcome task m driver input)
clocks_shown task bytes input m driver x =
    passed {a = x.design} x.is (made_given task m (clock_machine x.design) x.design.memories (schedule_bytes bytes.schedule) input driver x.found x.machine x.driven)

pub clocks_only : (task : Task) (bytes : RunBytes) (input text : List ℕ) → GivesClock task bytes input (Finished text)
    → (m : Machine) × (driver : Driver (is_on_board task)) × IsClocked task bytes m driver × (task_outcome task m driver input ≡ Finished text)
clocks_only task bytes input text gives =
    let design = found_by (IsDesign bytes) (IsNoDesign bytes) (λ d. GivesMade task (clock_machine d) d.memories (schedule_bytes bytes.schedule) input) text gives in
    let made = made_finished task (clock_machine design.0) design.0.memories (schedule_bytes bytes.schedule) input text design.2 in
    let clocked : IsClocked task bytes (clock_machine design.0) made.driver = record { design = design.0; is = design.1; found = made.found; machine = refl; driven = made.read } in
    (clock_machine design.0, made.driver, clocked, made.is)
