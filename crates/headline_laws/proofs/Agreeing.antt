-- Machines whose states agree after each list of entries for their pins give the same, but for sessions.
use Rattle.std.proofs.Common.{◌≡◌, ◌∙◌, ℕ, List, [], length, false, cond, nat_lt, None, refl, ap, subst}
use Rattle.std.specs.Prelude.{All}
use Rattle.std.specs.Str.Lines.{lines as lines_in}
use Rattle.std.proofs.Math.Path.{fun_ext}
use Rattle.lisa_engine.specs.State.{State}
use Rattle.lisa_engine.specs.Memory.{Memory}
use Rattle.lisa_engine.specs.Images.{missing_memory}
use Rattle.lisa_engine.specs.ScheduleLine.{Line}
use Rattle.lisa_engine.specs.Shape.{AreEntries, IsWidth}
use Rattle.lisa_engine.specs.PinValues.{pin_values, IsFor}
use Rattle.lisa_engine.specs.Text.{state_text, trace_text}
use Rattle.lisa_engine.specs.Machines.{Machine, machine_of}
use Rattle.lisa_engine.specs.declared.parts.Item.{Item}
use Rattle.lisa_engine.specs.declared.parts.ArrayItem.{ArrayItem}
use Rattle.lisa_engine.proofs.Checked.{kept_for, lines_kept}
use Rattle.lisa_engine.proofs.Played.{entries_fit}
use Rattle.lisa_board.specs.Boards.{Devices}
use Rattle.lisa_board.specs.Runs.{output}
use Rattle.lisa_board.proofs.RunLaws.{output_alike}
use Rattle.vcd_trace.specs.VcdText.{vcd_text}
use Rattle.lisa_outcomes.specs.declared.status.Refusal.TheVariants as refusals
use Rattle.lisa_outcomes.specs.declared.status.InputFault.TheVariants as input_faults
use Rattle.lisa_outcomes.specs.Outcomes.{Outcome, Finished, Refusing, passed, stopped}
use Rattle.engine_commands.specs.declared.tasks.Task.{Task}
use Rattle.engine_commands.specs.declared.tasks.Task.TheVariants as tasks
use Rattle.engine_commands.specs.Schedules.{IsSchedule}
use Rattle.engine_commands.specs.Boards.{IsBoard, board_input_limit}
use Rattle.engine_commands.specs.Tasks.{is_on_board, Driver, IsDriver, GivesTask, GivesUnder}
use Rattle.engine_commands.specs.Making.{GivesMade}
use Rattle.headline_laws.specs.Headline.{is_session, AreBytes}
use Rattle.headline_laws.proofs.Boards.{board_fits}

-- lines that are read can be played on their pins
lines_play : (pins : List Item) (bytes : List ℕ) (lines : List Line) → IsSchedule pins bytes lines → IsFor pins lines
lines_play pins bytes lines read = kept_for (lines_kept pins (record { name = []; width = 0 }) (lines_in bytes) 1 0 lines read)

-- two definitions for the same pins, items and arrays
module _ (pins items : List Item) (arrays : List ArrayItem) (f g : List (List ℕ) → State) where
  abbrev one : Machine
  one = machine_of pins items arrays f

  abbrev two : Machine
  two = machine_of pins items arrays g

  abbrev pub Agree : Type 0
  Agree = (entries : List (List ℕ)) → AreEntries pins entries → f entries ≡ g entries

  module _ (third : List ℕ) (widths : All (λ (pin : Item). IsWidth pin.width) pins) where
    same_states : Agree → (lines : List Line) → IsSchedule pins third lines → (edge : ℕ) → f (pin_values (length pins) lines edge) ≡ g (pin_values (length pins) lines edge)
    same_states agree lines read edge = agree (pin_values (length pins) lines edge) (entries_fit pins lines edge (lines_play pins third lines read))

    same_output : Agree → (devices : Devices) → IsBoard items pins third devices → (input : List ℕ) → AreBytes input → (edges : ℕ) → output one devices input edges ≡ output two devices input edges
    same_output agree devices read input bytes edges =
        output_alike one two devices input (λ entries fits. ap (λ (s : State). s.items) (agree entries fits)) (board_fits items pins devices third read) widths bytes edges

    same_task : Agree → (task : Task) (input : List ℕ) (driver : Driver (is_on_board task)) (outcome : Outcome) → is_session task ≡ false → AreBytes input
        → IsDriver (is_on_board task) items pins third driver → GivesTask task one input driver outcome → GivesTask task two input driver outcome
    same_task agree (tasks.State edges) input lines outcome silent bytes read gives =
        gives ∙ ap (λ (s : State). Finished (state_text items arrays edges s)) (same_states agree lines read edges)
    same_task agree (tasks.Trace edges) input lines outcome silent bytes read gives =
        gives ∙ ap (λ (states : ℕ → State). Finished (trace_text items arrays states edges)) (fun_ext (same_states agree lines read))
    same_task agree (tasks.Waves edges) input lines outcome silent bytes read gives =
        gives ∙ ap (λ (states : ℕ → State). Finished (vcd_text items (λ k. (states k).items) edges)) (fun_ext (same_states agree lines read))
    same_task agree (tasks.Board edges) input devices outcome silent bytes read gives =
        gives ∙ ap (λ (text : List ℕ). cond (nat_lt board_input_limit (length input)) (Refusing (refusals.Input input_faults.TooLong) []) (Finished text)) (same_output agree devices read input bytes edges)
    same_task agree tasks.Answers input lines outcome silent bytes read gives = cc

    module _ (memories : List Memory) (agree : missing_memory arrays memories ≡ None → Agree) where
      same_under : (task : Task) (input : List ℕ) (outcome : Outcome) → is_session task ≡ false → AreBytes input → missing_memory arrays memories ≡ None
          → GivesUnder task one third input outcome → GivesUnder task two third input outcome
      same_under task input outcome silent bytes none (passed {a = driver} read gives) =
          passed {a = driver} read (same_task (agree none) task input driver outcome silent bytes read gives)
      same_under task input _ silent bytes none (stopped wrong) = stopped wrong

      -- what a task gives over the one it gives over the other
      pub same_made : (task : Task) (input : List ℕ) (outcome : Outcome) → is_session task ≡ false → AreBytes input
          → GivesMade task one memories third input outcome → GivesMade task two memories third input outcome
      same_made task input outcome silent bytes (passed {a = machine} made gives) =
          passed {a = two} (made.0, refl) (same_under task input outcome silent bytes made.0 (subst (λ (m : Machine). GivesUnder task m third input outcome) made.1 gives))
      same_made task input _ silent bytes (stopped missing) = stopped missing
