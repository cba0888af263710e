-- The state after any edges.
use Rattle.std.specs.Prelude.{ℕ, zero, suc, List, [], ◌∷◌, Option, None, Some, if◌then◌else◌}
use Rattle.std.specs.List.{fold}
use Rattle.pipeline_time.specs.Cores.{Core}
use Rattle.pipeline_time.specs.Running.{Running}
use Rattle.pipeline_time.specs.Edges.{is_free, edge}
use Rattle.pipeline_time.specs.Journal.{Log, stands}

-- what lasts, and the edges so far, newest first
pub record State (R : Type 0) : Type 0 where
  pub memory : R
  pub past : List Log

module _ {R M : Type 0} (core : Core R M) where
  -- The slot that an edge makes, where it ends so. A root that runs in no stage makes one only where the first stage is neither held nor
  -- flushed.
  abbrev pub slot_made : Option ℕ → Running M → Option ℕ
  slot_made None now = None
  slot_made (Some zero) now = if is_free core now 1 then now.slot else None
  slot_made (Some (suc stage)) now = now.slot

  abbrev pub log_of : Running M → Log
  log_of now = record {
    stalled = core.stalled now.moment;
    flushed = core.flushed now.moment;
    made = now.made;
    slot = slot_made core.root_level now;
    ran = now.ran;
  }

  -- how an edge with these pins ends
  abbrev pub edge_of : List ℕ → State R → Running M
  edge_of pins state = edge core (stands core state.past) pins state.memory

  abbrev pub next : State R → List ℕ → State R
  next state pins =
      let now = edge_of pins state in
      record { memory = core.close now.moment; past = log_of now ∷ state.past }

  abbrev pub first_state : R → State R
  first_state first = record { memory = first; past = [] }

  -- the state after edges with these pins
  abbrev pub after : R → List (List ℕ) → State R
  after first entries = fold next (first_state first) entries
