-- What each task gives over a description with an image, under a schedule or on a board.
use Rattle.std.specs.Prelude.{ℕ, List, Option}
use Rattle.lisa_tree.specs.Descriptions.{DescriptionTree}
use Rattle.lisa_tree.specs.Texts.{SpellsText}
use Rattle.lisa_sim.specs.machine_parts.Parts.{arrays_of, pins_of}
use Rattle.checked_descriptions.specs.description_sizes.Sizes.{items}
use Rattle.lisa_sim.specs.lisa_meaning.States.{state_of}
use Rattle.lisa_engine.specs.Memory.{Memory}
use Rattle.lisa_outcomes.specs.Outcomes.{Outcome}
use Rattle.lisa_outcomes.specs.RunFiles.{RunBytes}
use Rattle.engine_commands.specs.declared.tasks.Task.{Task}
use Rattle.lisa_engine.specs.Machines.{Machine, machine_of}
use Rattle.engine_commands.specs.Schedules.{schedule_bytes}
use Rattle.engine_commands.specs.Making.{GivesMade, IsCutMade}
use Rattle.checked_descriptions.specs.Descriptions.{AfterSpelling}
use Rattle.checked_descriptions.specs.Checked.{Checked, IsChecked, AfterChecks}
use Rattle.checked_descriptions.specs.DescriptionImages.{IsImageFor, AfterImage}

-- its machine: the states that the description means, with the image's cells first
abbrev pub described_machine : Checked → List Memory → Machine
described_machine c memories = machine_of (pins_of c.tree) (items c.tree c.width) (arrays_of c.tree) (state_of c.tree memories)

-- ---- the task

-- over the machine of a description that is checked
abbrev pub GivesChecked : Task → RunBytes → (input : List ℕ) → Checked → Outcome → Type 0
GivesChecked task bytes input c =
    AfterImage c.tree bytes.image (λ memories. GivesMade task (described_machine c memories) memories (schedule_bytes bytes.schedule) input)

-- over what the files of a run spell: the description is read and checked first, then its image, and then the schedule or the
-- board
abbrev pub GivesRun : Task → RunBytes → (input : List ℕ) → Outcome → Type 0
GivesRun task bytes input = AfterSpelling bytes.main (λ d. AfterChecks d (GivesChecked task bytes input))

-- ---- the input failed in a task

-- over the machine of a description that is checked
pub record IsCutChecked (task : Task) (c : Checked) (bytes : RunBytes) (left rest before after : Option (List ℕ)) : Type 0 where
  pub memories : List Memory
  pub image : IsImageFor c.tree bytes.image memories
  pub cut : IsCutMade task (described_machine c memories) memories (schedule_bytes bytes.schedule) left rest before after

pub record IsCutTree (task : Task) (d : DescriptionTree) (bytes : RunBytes) (left rest before after : Option (List ℕ)) : Type 0 where
  pub checked : Checked
  pub is : IsChecked d checked
  pub cut : IsCutChecked task checked bytes left rest before after

-- over what the files of a run spell
pub record IsCutRun (task : Task) (bytes : RunBytes) (left rest before after : Option (List ℕ)) : Type 0 where
  pub tree : DescriptionTree
  pub spelled : SpellsText bytes.main tree
  pub cut : IsCutTree task tree bytes left rest before after
