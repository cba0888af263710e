-- What `occupancy` gives.
use Rattle.std.specs.Prelude.{ℕ, suc, ◌≡◌, ◌++◌, List, codes, decimal, count_by}
use Rattle.std.specs.List.{flat_map, enumerate_from}
use Rattle.lisa_tree.specs.Descriptions.{DescriptionTree}
use Rattle.lisa_tree.specs.Resources.{stages}
use Rattle.lisa_engine.specs.Memory.{Memory}
use Rattle.lisa_engine.specs.ScheduleLine.{Line}
use Rattle.lisa_engine.specs.Machines.{Machine, course_of, entries_to}
use Rattle.pipeline_time.specs.Edges.{is_held, is_flushed}
use Rattle.pipeline_time.specs.Journal.{Log}
use Rattle.pipeline_runs.specs.Seeing.{has_run}
use Rattle.activation_plans.specs.lisa_meaning.Cores.{core_of}
use Rattle.lisa_sim.specs.lisa_meaning.States.{after_edges}
use Rattle.lisa_outcomes.specs.Outcomes.{Outcome, Finished, After}
use Rattle.lisa_outcomes.specs.RunFiles.{RunBytes}
use Rattle.engine_commands.specs.Images.{IsMissing}
use Rattle.engine_commands.specs.Making.{IsMade}
use Rattle.engine_commands.specs.Schedules.{IsSchedule, IsNoSchedule, schedule_bytes}
use Rattle.checked_descriptions.specs.Descriptions.{AfterSpelling}
use Rattle.checked_descriptions.specs.Checked.{Checked, AfterChecks}
use Rattle.checked_descriptions.specs.DescriptionImages.{AfterImage}
use Rattle.description_commands.specs.Runs.{described_machine}

-- ---- in how many of the edges of a journal a stage did something; stages count from 0, and levels from 1

-- an activation, or an item due in the first stage, ran in it as in its own
abbrev pub executed_in : DescriptionTree → List Log → (stage : ℕ) → ℕ
executed_in d past stage = count_by (λ log. has_run (core_of d) log (suc stage)) past

abbrev pub held_in : List Log → (stage : ℕ) → ℕ
held_in past stage = count_by (λ log. is_held log.stalled (suc stage)) past

abbrev pub flushed_in : List Log → (stage : ℕ) → ℕ
flushed_in past stage = count_by (λ log. is_flushed log.flushed (suc stage)) past

-- ---- their text

-- a label and a number
abbrev pub labelled : List ℕ → ℕ → List ℕ
labelled label count = label ++ decimal count

-- a name and three numbers, on a line
abbrev pub occupancy_line : List ℕ → (executed held flushed : ℕ) → List ℕ
occupancy_line name executed held flushed =
    name ++ (labelled (codes " executed ") executed ++ (labelled (codes " held ") held ++ (labelled (codes " flushed ") flushed ++ codes "\n")))

abbrev pub stage_line : DescriptionTree → List Log → ℕ × List ℕ → List ℕ
stage_line d past (stage, name) = occupancy_line name (executed_in d past stage) (held_in past stage) (flushed_in past stage)

-- a line for each stage of the pipeline, from the first on
abbrev pub occupancy_text : DescriptionTree → List Log → List ℕ
occupancy_text d past = flat_map (stage_line d past) (enumerate_from 0 (stages d))

-- ---- the command

-- over a machine of the description under the lines of a schedule: by the journal of so many edges
abbrev pub Occupies : (edges : ℕ) → DescriptionTree → List Memory → Machine → List Line → Outcome → Type 0
Occupies edges d memories machine lines outcome = outcome ≡ Finished (occupancy_text d (after_edges d memories (entries_to (course_of machine lines) edges)).past)

-- behind the reading of the schedule
abbrev pub OccupiesUnder : (edges : ℕ) → DescriptionTree → (schedule : List ℕ) → List Memory → Machine → Outcome → Type 0
OccupiesUnder edges d schedule memories machine =
    After (IsSchedule machine.pins schedule) (IsNoSchedule machine.pins schedule) (Occupies edges d memories machine)

-- behind the look-up of the image's memories
abbrev pub OccupiesMade : (edges : ℕ) → Checked → (schedule : List ℕ) → List Memory → Outcome → Type 0
OccupiesMade edges c schedule memories =
    let wanted = described_machine c memories in After (IsMade wanted memories) (IsMissing wanted.arrays memories) (OccupiesUnder edges c.tree schedule memories)

-- over a description that is checked
abbrev pub OccupiesChecked : (edges : ℕ) → RunBytes → Checked → Outcome → Type 0
OccupiesChecked edges bytes c = AfterImage c.tree bytes.image (OccupiesMade edges c (schedule_bytes bytes.schedule))

-- over what the files of a run spell: the description is read and checked first, then its image, and then the schedule
abbrev pub GivesOccupancy : (edges : ℕ) → RunBytes → Outcome → Type 0
GivesOccupancy edges bytes = AfterSpelling bytes.main (λ d. AfterChecks d (OccupiesChecked edges bytes))
