-- When a state of a step program has what lasts from edge to edge, and what hardware has. On the way to the program: nothing here needs to
-- be trusted.
use Rattle.std.specs.Prelude.{ℕ, ◌≡◌, ◌<◌, Some, length, slice_index, slice_index_or}
use Rattle.lisa_tree.specs.Descriptions.{DescriptionTree}
use Rattle.lisa_engine.specs.State.{State}
use Rattle.machine_parts.specs.Parts.{registers_of}
use Rattle.pipeline_time.specs.Bits.{Hardware}
use Rattle.step_program.specs.Programs.{Program}
use Rattle.state_items.specs.lisa_meaning.Moments.{Contents, field_at}
use Rattle.lowered_time.specs.Lowering.{bit}
use Rattle.lowered_resources.specs.Places.{HasField}
use Rattle.lowered_layouts.specs.Items.{bit_place, word_place, field_place}

-- registers, fields of boundaries, and cells
pub record HasContents (d : DescriptionTree) (memory : Contents) (state : State) : Type 0 where
  pub registers : (k : ℕ) → k < length (registers_of d) → slice_index state.items k ≡ slice_index_or memory.registers k 0
  pub fields : (s f : ℕ) → HasField d s f → slice_index state.items (field_place d s f) ≡ field_at memory.fields s f
  pub cells : state.cells ≡ memory.cells

-- these, and the bits and words of stages
pub record HasHardware (d : DescriptionTree) (p : Program) (hard : Hardware Contents) (state : State) : Type 0 where
  pub contents : HasContents d hard.memory state
  pub bits : (level number place : ℕ) → bit_place d level number ≡ Some place → slice_index state.items place ≡ bit (hard.bits level number)
  pub words : (level place : ℕ) → word_place d level ≡ Some place → slice_index state.items place ≡ hard.words level
  pub item_count : length state.items ≡ length p.items
