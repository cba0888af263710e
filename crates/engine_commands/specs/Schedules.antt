-- The schedule of a command, which is read before its task is done.
use Rattle.std.specs.Prelude.{ℕ, ◌≡◌, List, [], Option, Some, None, Ok, Err}
use Rattle.lisa_engine.specs.ScheduleLine.{Line}
use Rattle.lisa_engine.specs.Schedules.{schedule_of}
use Rattle.lisa_engine.specs.declared.parts.Item.{Item}
use Rattle.lisa_engine.specs.declared.schedule.ScheduleFault.{ScheduleFault}
use Rattle.lisa_outcomes.specs.declared.status.Refusal.{Refusal}
use Rattle.lisa_outcomes.specs.declared.status.Refusal.TheVariants as refusals

-- a schedule that is left out has no lines
abbrev pub schedule_bytes : Option (List ℕ) → List ℕ
schedule_bytes None = []
schedule_bytes (Some bytes) = bytes

-- the lines that bytes write for these pins
abbrev pub IsSchedule : List Item → List ℕ → List Line → Type 0
IsSchedule pins bytes lines = schedule_of pins bytes ≡ Ok lines

abbrev pub IsNoSchedule : List Item → List ℕ → Refusal → Type 0
IsNoSchedule pins bytes refusal = (fault : ScheduleFault) × (schedule_of pins bytes ≡ Err fault) × (refusal ≡ refusals.Schedule fault)
