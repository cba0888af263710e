-- What the code counts of each stage.
use Rattle.std.specs.Prelude.{ℕ, ◌+◌, ◌<◌, ◌≡◌, ◌≤◌, List, slice_index, cond}
use Rattle.activation_bits.specs.Members.{has}
use Rattle.lisa_tree.specs.Descriptions.{DescriptionTree}
use Rattle.pipeline_time.specs.Journal.{Log}
use Rattle.description_commands.specs.declared.occupancy.Occupancy.{Occupancy}
use Rattle.description_commands.specs.Occupancies.{executed_in, held_in, flushed_in, occupancy_line}

-- counts of eight stages after one more edge, in which the stages of some bits did something
abbrev pub CountsMore : (stages : ℕ) → (before now : List ℕ) → Type 0
CountsMore stages before now = (stage : ℕ) → stage < 8 → slice_index now stage ≡ cond (has stages stage) 1 0 + slice_index before stage

-- no count of eight stages is above a number of edges
abbrev pub AreUpTo : (edges : ℕ) → List ℕ → Type 0
AreUpTo edges counts = (stage : ℕ) → stage < 8 → slice_index counts stage ≤ edges

-- the counts of eight stages are those of a journal
pub record IsOccupancy (d : DescriptionTree) (past : List Log) (counts : Occupancy) : Type 0 where
  pub executed : (stage : ℕ) → stage < 8 → slice_index counts.executed stage ≡ executed_in d past stage
  pub held : (stage : ℕ) → stage < 8 → slice_index counts.held stage ≡ held_in past stage
  pub flushed : (stage : ℕ) → stage < 8 → slice_index counts.flushed stage ≡ flushed_in past stage

-- the line of a stage, by these counts
abbrev pub counted_line : Occupancy → ℕ × List ℕ → List ℕ
counted_line counts (stage, name) = occupancy_line name (slice_index counts.executed stage) (slice_index counts.held stage) (slice_index counts.flushed stage)
