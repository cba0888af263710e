-- What the last edge of a description's machine did in each stage.
use Rattle.std.specs.Prelude.{ℕ, ◌≡◌, List, ◌∷◌}
use Rattle.lisa_tree.specs.Descriptions.{DescriptionTree}
use Rattle.lisa_engine.specs.Memory.{Memory}
use Rattle.pipeline_time.specs.Journal.{Log}
use Rattle.pipeline_runs.specs.declared.seen.Seen.{Seen}
use Rattle.pipeline_runs.specs.Seeing.{IsSeen}
use Rattle.activation_plans.specs.lisa_meaning.Cores.{core_of}
use Rattle.activation_plans.specs.lisa_meaning.States.{after_edges}

-- what is seen of the last of these edges, as the journal has it
pub record IsLastSeen (d : DescriptionTree) (image : List Memory) (entries : List (List ℕ)) (seen : Seen) : Type 0 where
  pub last : Log
  pub earlier : List Log
  pub journal : (after_edges d image entries).past ≡ last ∷ earlier
  pub is_seen : IsSeen (core_of d) last seen
