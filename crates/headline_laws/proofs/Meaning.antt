-- What is printed over a description is of the states that it means.
use Rattle.std.proofs.Common.{◌≡◌, ℕ, List, [], length, Bool, true, false, cond, nat_lt, sym, subst}
use Rattle.lisa_tree.specs.Descriptions.{DescriptionTree}
use Rattle.lisa_tree.specs.Texts.{SpellsText}
use Rattle.lisa_outcomes.specs.declared.status.Refusal.{Refusal}
use Rattle.lisa_outcomes.specs.declared.status.Refusal.TheVariants as refusals
use Rattle.lisa_outcomes.specs.declared.status.InputFault.TheVariants as input_faults
use Rattle.lisa_outcomes.specs.Outcomes.{Finished, Refusing, passed}
use Rattle.lisa_outcomes.specs.RunFiles.{RunBytes}
use Rattle.engine_commands.specs.declared.tasks.Task.{Task}
use Rattle.lisa_engine.specs.Machines.{Machine}
use Rattle.lisa_board.specs.Boards.{Devices}
use Rattle.lisa_board.specs.Runs.{output}
use Rattle.engine_commands.specs.Schedules.{schedule_bytes}
use Rattle.engine_commands.specs.Boards.{board_input_limit, board_outcome}
use Rattle.engine_commands.specs.Tasks.{is_on_board, Driver, IsDriver, GivesTask}
use Rattle.verilog_command.specs.checked_descriptions.Checked.{IsChecked}
use Rattle.description_commands.specs.Runs.{GivesRun}
use Rattle.headline_laws.specs.Headline.{Meant, meant_machine}

-- what is printed is what its task gives over what it means
pub record IsMeant (task : Task) (run : RunBytes) (input shown : List ℕ) : Type 0 where
  pub meant : Meant run
  pub driver : Driver (is_on_board task)
  pub read : IsDriver (is_on_board task) (meant_machine meant).items (meant_machine meant).pins (schedule_bytes run.schedule) driver
  pub gives : GivesTask task (meant_machine meant) input driver (Finished shown)

pub finished_same : (a b : List ℕ) → Finished a ≡ Finished b → a ≡ b
finished_same a b e = cc

pub is_meant : (task : Task) (run : RunBytes) (input shown : List ℕ) → GivesRun task run input (Finished shown) → IsMeant task run input shown
is_meant task run input shown (passed {a = d} spelled (passed {a = c} is (passed {a = memories} image (passed {a = machine} made (passed {a = driver} read gives))))) = record {
  meant = record {
    tree = c.tree;
    width = c.width;
    spelled = subst (SpellsText run.main) (sym is.tree) spelled;
    checked = subst (λ (x : DescriptionTree). IsChecked x c) (sym is.tree) is;
    memories = memories;
    image = image;
    found = made.0;
  };
  driver = driver;
  read = subst (λ (m : Machine). IsDriver (is_on_board task) m.items m.pins (schedule_bytes run.schedule) driver) made.1 read;
  gives = subst (λ (m : Machine). GivesTask task m input driver (Finished shown)) made.1 gives;
}

-- what finishes on a board prints what its console does
pub board_finished : (m : Machine) (devices : Devices) (edges : ℕ) (input shown : List ℕ) → Finished shown ≡ board_outcome m devices edges input → shown ≡ output m devices input edges
board_finished m devices edges input shown gives = by_length (nat_lt board_input_limit (length input)) gives
  where
    never : (refusal : Refusal) → Finished shown ≡ Refusing refusal [] → ⊥
    never refusal e = cc

    by_length : (long : Bool) → Finished shown ≡ cond long (Refusing (refusals.Input input_faults.TooLong) []) (Finished (output m devices input edges)) → shown ≡ output m devices input edges
    by_length true e = absurd (never _ e)
    by_length false e = finished_same shown (output m devices input edges) e
