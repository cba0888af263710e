-- What a task gives over a machine is one outcome.
use Rattle.std.proofs.Common.{◌≡◌, ℕ, List, None, refl, sym, subst}
use Rattle.lisa_engine.specs.Memory.{Memory}
use Rattle.lisa_engine.specs.Images.{missing_memory}
use Rattle.lisa_outcomes.specs.Outcomes.{Finished, passed}
use Rattle.engine_commands.specs.declared.tasks.Task.{Task}
use Rattle.engine_commands.specs.Images.{IsMissing}
use Rattle.lisa_engine.specs.Machines.{Machine}
use Rattle.engine_commands.specs.Tasks.{Driver, is_on_board, IsDriver, IsNoDriver, GivesTask, GivesUnder, task_outcome}
use Rattle.engine_commands.specs.Making.{IsMade, GivesMade}
use Rattle.command_promises.proofs.Afters.{found_by}

-- over a machine that is made of another with the memories of an image
pub made_given : (task : Task) (m wanted : Machine) (memories : List Memory) (third input : List ℕ) (driver : Driver (is_on_board task)) → missing_memory wanted.arrays memories ≡ None → m ≡ wanted
    → IsDriver (is_on_board task) m.items m.pins third driver → GivesMade task wanted memories third input (task_outcome task m driver input)
made_given task m wanted memories third input driver found same read = passed {a = m} (found, same) (passed {a = driver} read refl)

-- what finished over it
pub record Finishes (task : Task) (wanted : Machine) (memories : List Memory) (third input text : List ℕ) : Type 0 where
  pub driver : Driver (is_on_board task)
  pub found : missing_memory wanted.arrays memories ≡ None
  pub read : IsDriver (is_on_board task) wanted.items wanted.pins third driver
  pub is : task_outcome task wanted driver input ≡ Finished text

pub made_finished : (task : Task) (wanted : Machine) (memories : List Memory) (third input text : List ℕ) → GivesMade task wanted memories third input (Finished text) → Finishes task wanted memories third input text
made_finished task wanted memories third input text gives =
    let made = found_by (IsMade wanted memories) (IsMissing wanted.arrays memories) (λ machine. GivesUnder task machine third input) text gives in
    let under : GivesUnder task wanted third input (Finished text) = subst (λ (machine : Machine). GivesUnder task machine third input (Finished text)) made.1.1 made.2 in
    let read = found_by (IsDriver (is_on_board task) wanted.items wanted.pins third) (IsNoDriver (is_on_board task) wanted.items wanted.pins third) (GivesTask task wanted input) text under in
    record { driver = read.0; found = made.1.0; read = read.1; is = sym read.2 }
