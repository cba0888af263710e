-- When a moment of a step program is one of a behaviour, but for locals. On the way to the program: nothing here needs to be trusted.
use Rattle.std.specs.Prelude.{ℕ, ◌≡◌, ◌<◌, List, [], length, cond, Some, slice_index, slice_index_or}
use Rattle.std.specs.Option.{is_some}
use Rattle.lisa_tree.specs.Descriptions.{DescriptionTree}
use Rattle.lisa_engine.specs.Shape.{IsFitting}
use Rattle.graph_paths.specs.Paths.{is_in}
use Rattle.meaning_promises.specs.machine_parts.Parts.{pins_of, registers_of}
use Rattle.step_program.specs.Programs.{Program}
use Rattle.step_program.specs.Effects as steps
use Rattle.scene_paths.specs.lisa_meaning.Moments.{Moment, field_at, written}
use Rattle.meaning_promises.specs.Fitting.{MomentFits}
use Rattle.lowered_resources.specs.Places.{Places, Written, Out, Stall, Flush, HasField, IsLevel}

-- what is read as the edge began
pub record HoldsBefore (d : DescriptionTree) (places : Places) (before pins : List ℕ) (m : Moment) : Type 0 where
  pub kept : (k : ℕ) → k < length (registers_of d) → slice_index before k ≡ slice_index_or m.kept k 0
  pub fields : (s f : ℕ) → HasField d s f → slice_index before (places.field s f) ≡ field_at m.memory.fields s f
  pub same_pins : pins ≡ m.pins

-- what steps leave
pub record HoldsNow (d : DescriptionTree) (places : Places) (m : Moment) (now : steps.Moment) : Type 0 where
  pub registers : (k : ℕ) → k < length (registers_of d) → slice_index now.items k ≡ slice_index_or m.memory.registers k 0
  pub cells : now.cells ≡ m.memory.cells
  pub marks : (s f : ℕ) → HasField d s f → slice_index now.temps (places.temp (Written s f)) ≡ cond (is_some (written m.outs s f)) 1 0
  pub outs : (s f bits : ℕ) → HasField d s f → written m.outs s f ≡ Some bits → slice_index now.temps (places.temp (Out s f)) ≡ bits
  pub stalled : (level : ℕ) → IsLevel d level → slice_index now.temps (places.temp (Stall level)) ≡ cond (is_in level m.stalled) 1 0
  pub flushed : (level : ℕ) → IsLevel d level → slice_index now.temps (places.temp (Flush level)) ≡ cond (is_in level m.flushed) 1 0

-- what is there fits, and each field of each boundary has room for what it gets
pub record HoldsFit (d : DescriptionTree) (m : Moment) : Type 0 where
  pub moment : MomentFits d m
  pub rooms : (s f : ℕ) → HasField d s f → (s < length m.outs) × (f < length (slice_index_or m.outs s []))
  pub kept : IsFitting (registers_of d) m.kept
  pub pins : IsFitting (pins_of d) m.pins

pub record Holds (d : DescriptionTree) (places : Places) (p : Program) (before pins : List ℕ) (m : Moment) (now : steps.Moment) : Type 0 where
  pub item_count : length now.items ≡ length p.items
  pub past : HoldsBefore d places before pins m
  pub present : HoldsNow d places m now
  pub fits : HoldsFit d m
