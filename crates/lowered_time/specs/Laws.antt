-- What the steps of an edge make.
use Rattle.std.specs.Prelude.{ℕ, ◌≡◌, List, [], ◌∷◌, ◌++◌, All}
use Rattle.lisa_engine.specs.State.{State}
use Rattle.lisa_engine.specs.Memory.{Memory}
use Rattle.step_program.specs.Programs.{Program}
use Rattle.step_program.specs.Effects.{p_edge, p_first, p_state}
use Rattle.step_pieces.specs.Formed.{Lies}
use Rattle.pipeline_time.specs.Cores.{Core}
use Rattle.pipeline_time.specs.States.{after}
use Rattle.pipeline_time.specs.Bits.{shown, first_hardware}
use Rattle.lowered_time.specs.Building.{Operations, Layout, edge}
use Rattle.lowered_time.specs.Lowering.{Meant, IsLaidOut, AreLowered, Shows, IsEntry}

-- a program whose steps are those of an edge
pub record MakesEdges {R M A B C D E : Type 0} (core : Core R M) (ops : Operations) (layout : Layout) (p : Program) (meant : Meant R M A B C D E) : Type 0 where
  pub lowered : AreLowered core ops layout p meant
  pub laid_out : IsLaidOut core layout p
  pub moves : p.moves ≡ (edge core ops layout layout.lasting).moves
  pub placed : Lies p.temps layout.lasting (edge core ops layout layout.lasting).widths

module _ {R M A B C D E : Type 0} (core : Core R M) (ops : Operations) (layout : Layout) (p : Program) (meant : Meant R M A B C D E) where
  -- One edge of the program makes one of the core's.
  abbrev pub EdgesAreMade : Type 0
  EdgesAreMade =
      (first : R) (entries : List (List ℕ)) (pins : List ℕ) (state : State)
      → IsEntry meant pins
      → Shows core ops layout p meant (shown core (after core first entries)) state
      → Shows core ops layout p meant (shown core (after core first (entries ++ pins ∷ []))) (p_edge p state pins)

  -- Where the program begins as the core does, its states show the core's.
  abbrev pub StatesAreMade : Type 0
  StatesAreMade =
      (first : R) (image : List Memory) (entries : List (List ℕ))
      → Shows core ops layout p meant (first_hardware core first) (p_first p image)
      → All (IsEntry meant) entries
      → Shows core ops layout p meant (shown core (after core first entries)) (p_state p image entries)
