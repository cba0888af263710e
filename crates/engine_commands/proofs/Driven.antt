-- What a task ends with under a schedule.
use Rattle.std.proofs.Common.{◌≡◌, refl, List, ℕ, Option, Result, Ok, Err}
use Rattle.lisa_engine.specs.ScheduleLine.{Line}
use Rattle.lisa_engine.specs.Machines.{Machine}
use Rattle.lisa_outcomes.specs.declared.status.End.{End}
use Rattle.lisa_outcomes.specs.Outcomes.{Outcome, Finished, After}
use Rattle.lisa_outcomes.specs.Ends.{Ends}
use Rattle.lisa_outcomes.specs.Stages.{Finds}
use Rattle.lisa_outcomes.specs.Writes.{Writes}
use Rattle.lisa_outcomes.proofs.Endings.{passed_ends, stopped_ends, replies_end}
use Rattle.lisa_outcomes.proofs.Writing.{written_replies}
use Rattle.engine_commands.specs.declared.tasks.Task.{Task}
use Rattle.engine_commands.specs.declared.tasks.Task.TheVariants as tasks
use Rattle.engine_commands.specs.Schedules.{IsSchedule, IsNoSchedule}
use Rattle.engine_commands.specs.Tasks.{GivesTask, GivesUnder}

module _ (m : Machine) (third : List ℕ) (Told : List ℕ → Type 0) (Blamed : Type 0) where
  -- it was read, and a text of its lines was written
  pub shown_ends : (text : List Line → List ℕ) (lines : List Line) (before after : Option (List ℕ)) (old new : ℕ) (result : Result (Unit {0}) End)
      → Finds {X = List Line} (λ (l : List Line). l) (IsSchedule m.pins third) (IsNoSchedule m.pins third) (Ok lines) → Writes before after old new result (text lines)
      → Ends Told (λ (input : List ℕ). After (IsSchedule m.pins third) (IsNoSchedule m.pins third) (λ (l : List Line) (outcome : Outcome). outcome ≡ Finished (text l))) Blamed before after old new result
  shown_ends text lines before after old new result finds writes =
      passed_ends (λ (l : List Line). l) (IsSchedule m.pins third) (IsNoSchedule m.pins third) Told (λ (input : List ℕ) (l : List Line) (outcome : Outcome). outcome ≡ Finished (text l))
      Blamed Blamed lines before after old new result finds (λ b. b)
      (replies_end Told Blamed (λ (outcome : Outcome). outcome ≡ Finished (text lines)) before after old new result (written_replies (text lines) before after old new result writes))

  -- it wasn't read
  pub unscheduled_ends : (task : Task) (end : End) (sink : Option (List ℕ)) (old : ℕ) → ((edges : ℕ) → task ≡ tasks.Board edges → ⊥)
      → Finds {X = List Line} (λ (l : List Line). l) (IsSchedule m.pins third) (IsNoSchedule m.pins third) (Err end)
      → Ends {T = Unit {0}} Told (GivesUnder task m third) Blamed sink sink old old (Err end)
  unscheduled_ends (tasks.State edges) end sink old other finds =
      stopped_ends (λ (l : List Line). l) (IsSchedule m.pins third) (IsNoSchedule m.pins third) Told (GivesTask (tasks.State edges) m) Blamed end sink old finds
  unscheduled_ends (tasks.Trace edges) end sink old other finds =
      stopped_ends (λ (l : List Line). l) (IsSchedule m.pins third) (IsNoSchedule m.pins third) Told (GivesTask (tasks.Trace edges) m) Blamed end sink old finds
  unscheduled_ends (tasks.Waves edges) end sink old other finds =
      stopped_ends (λ (l : List Line). l) (IsSchedule m.pins third) (IsNoSchedule m.pins third) Told (GivesTask (tasks.Waves edges) m) Blamed end sink old finds
  unscheduled_ends (tasks.Board edges) end sink old other finds = absurd (other edges refl)
  unscheduled_ends tasks.Answers end sink old other finds =
      stopped_ends (λ (l : List Line). l) (IsSchedule m.pins third) (IsNoSchedule m.pins third) Told (GivesTask tasks.Answers m) Blamed end sink old finds
