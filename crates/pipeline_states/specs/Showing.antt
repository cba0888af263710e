-- What a pipeline over a store shows.
use Rattle.std.specs.Prelude.{ℕ, List, map, slice_index, slice_index_or}
use Rattle.lisa_tree.specs.Descriptions.{DescriptionTree}
use Rattle.lisa_engine.specs.Memory.{Memory}
use Rattle.lisa_engine.specs.State.{State}
use Rattle.item_layouts.specs.declared.place.ItemPlace.{ItemPlace}
use Rattle.item_layouts.specs.Layouts.{ItemValues, value_at}
use Rattle.pipeline_time.specs.Bits.{shown}
use Rattle.lisa_activation.specs.declared.kept.Queues.{Queues}
use Rattle.lisa_activation.specs.Queued.{standing}
use Rattle.pipeline_runs.specs.Pipelines.{ShowsHardware}
use Rattle.lisa_meaning.specs.Moments.{Contents, field_at}
use Rattle.lisa_meaning.specs.Cores.{core_of}
use Rattle.lisa_meaning.specs.States.{after_edges}

-- the values of items, by what lasts, the queues and the words of stages
abbrev pub values_in : Contents → Queues → List ℕ → ItemValues
values_in memory queues words = record {
  register = λ k. slice_index_or memory.registers k 0;
  field = λ s f. field_at memory.fields s f;
  word = λ s. slice_index words s;
  bit = λ s k. standing queues s k;
}

-- the state that they show, with items at these places
abbrev pub state_in : List ItemPlace → Contents → Queues → List ℕ → State
state_in places memory queues words = record { items = map (value_at (values_in memory queues words)) places; cells = memory.cells }

-- the description's machine shows them after some edges
pub record IsReached (d : DescriptionTree) (image : List Memory) (memory : Contents) (queues : Queues) (words : List ℕ) : Type 0 where
  pub entries : List (List ℕ)
  pub shows : ShowsHardware memory queues words (shown (core_of d) (after_edges d image entries))
