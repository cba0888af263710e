-- What `lowered_time` leaves open, for a description: when a moment of its program is one of a behaviour, when a row has a word, which words
-- there are, when a state has what lasts, and which pins there are. On the way to the program: nothing here needs to be trusted.
use Rattle.std.specs.Prelude.{ℕ, ◌≡◌, ◌<◌, ◌≤◌, ◌^◌, List, [], length}
use Rattle.std.specs.List.{AllByRecursion}
use Rattle.lisa_tree.specs.Descriptions.{DescriptionTree}
use Rattle.lisa_engine.specs.Shape.{IsFitting}
use Rattle.lisa_engine.specs.State.{State}
use Rattle.lisa_tree.specs.Resources.{stages}
use Rattle.machine_parts.specs.Parts.{pins_of}
use Rattle.step_program.specs.Programs.{Program}
use Rattle.step_program.specs.Effects as steps
use Rattle.step_pieces.specs.Running.{HasTemps}
use Rattle.activation_plans.specs.lisa_meaning.Moments.{Contents, Moment}
use Rattle.lowered_behaviors.specs.meaning_promises.Fitting.{ContentsFit}
use Rattle.lowered_time.specs.Lowering.{Meant}
use Rattle.lowered_layouts.specs.lowered_resources.Holding.{Holds}
use Rattle.lowered_layouts.specs.lowered_words.Rows.{HasRow}
use Rattle.lowered_layouts.specs.Temps.{row_base, row_count}
use Rattle.lowered_layouts.specs.Items.{places_of}
use Rattle.lowered_layouts.specs.States.{HasContents}

module _ (d : DescriptionTree) (width : ℕ) (p : Program) where
  -- between behaviours no locals are in scope, and what is stalled are stages
  pub record IsMoment (before pins : List ℕ) (m : Moment) (now : steps.Moment) : Type 0 where
    pub holds : Holds d (places_of d) p before pins m now
    pub has : HasTemps p now
    pub bare : m.locals ≡ []
    pub stalls : AllByRecursion (λ stall. stall ≤ length (stages d)) m.stalled

  pub record HasWordIn (row word : ℕ) (now : steps.Moment) : Type 0 where
    pub there : row < row_count d
    pub held : HasRow d (row_base d row) word now
    pub fits : word < 2 ^ width

  pub record HasLasting (memory : Contents) (state : State) : Type 0 where
    pub contents : HasContents d memory state
    pub item_count : length state.items ≡ length p.items
    pub fit : ContentsFit d memory

  -- ---- the cases of each

  abbrev pub MomentCase : Type 0
  MomentCase = (at : (List ℕ × List ℕ) × (Moment × steps.Moment)) × IsMoment at.0.0 at.0.1 at.1.0 at.1.1

  abbrev pub RowCase : Type 0
  RowCase = (at : (ℕ × ℕ) × steps.Moment) × HasWordIn at.0.0 at.0.1 at.1

  abbrev pub WordCase : Type 0
  WordCase = (word : ℕ) × (word < 2 ^ width)

  abbrev pub LastingCase : Type 0
  LastingCase = (at : Contents × State) × HasLasting at.0 at.1

  abbrev pub EntryCase : Type 0
  EntryCase = (pins : List ℕ) × IsFitting (pins_of d) pins

  abbrev pub meant : Meant Contents Moment MomentCase RowCase WordCase LastingCase EntryCase
  meant = record {
    agreeing = λ (x : MomentCase). x.0;
    holding = λ (x : RowCase). x.0;
    naming = λ (x : WordCase). x.0;
    keeping = λ (x : LastingCase). x.0;
    entering = λ (x : EntryCase). x.0;
  }
