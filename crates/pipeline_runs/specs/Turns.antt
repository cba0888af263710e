-- What is due in a stage, as memory and queues have it.
use Rattle.std.specs.Prelude.{ℕ, suc, ◌≤◌, ◌≡◌, true, List, length, map, drop, Option, Some, slice_get}
use Rattle.std.specs.Option.{unwrap_or}
use Rattle.std.specs.List.{filter}
use Rattle.pipeline_time.specs.Acts.{Node}
use Rattle.pipeline_time.specs.Cores.{Core, all_nodes}
use Rattle.pipeline_time.specs.Running.{word_below}
use Rattle.pipeline_time.specs.Edges.{is_due}
use Rattle.pipeline_time.specs.Sound.{IsSound}
use Rattle.lisa_activation.specs.declared.kept.Queues.{Queues}
use Rattle.lisa_activation.specs.Queued.{count, is_due as is_queued}
use Rattle.lisa_activation.specs.Shown.{AreQueuesOf}
use Rattle.pipeline_runs.specs.declared.tree.Occurrence.{Occurrence}
use Rattle.pipeline_runs.specs.declared.plan.Plan.{Plan}
use Rattle.pipeline_runs.specs.Runs.{node_of}

module _ {R M : Type 0} (core : Core R M) where
  -- a plan of a core of eight stages at most
  pub record IsPlanOf (plan : Plan) : Type 0 where
    pub nodes : map node_of plan.occurrences.items ≡ all_nodes core
    pub stages : plan.stages ≡ core.stages
    pub few : core.stages ≤ 8
    pub root : plan.root_level ≡ core.root_level

  -- the core is sound, and plan and queues are of it
  pub record IsEquipped (queues : Queues) (plan : Plan) : Type 0 where
    pub sound : IsSound core
    pub planned : IsPlanOf plan
    pub tables : AreQueuesOf core queues
    pub as_many : count queues ≡ length plan.occurrences.items

  -- those that are due from a number on
  abbrev pub due_from : (ℕ → Option ℕ) → ℕ → ℕ → List Occurrence → List Node
  due_from words stage from occurrences = filter (is_due core words (suc stage)) (map node_of (drop from occurrences))

  -- what waits for the turn of a stage is what is due by the queues, past the root with the word, and else with 0
  abbrev pub WaitAs : Queues → ℕ → ℕ → (ℕ → Option ℕ) → List Occurrence → Type 0
  WaitAs queues stage word words occurrences =
      (n : ℕ) (o : Occurrence)
      → slice_get occurrences n ≡ Some o
      → (is_due core words (suc stage) (node_of o) ≡ is_queued queues stage n)
      × (is_queued queues stage n ≡ true → unwrap_or (words o.number) 0 ≡ word_below o.past word)
