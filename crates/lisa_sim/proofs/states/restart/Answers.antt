use Rattle.std.proofs.Common.{[], ap, sym, subst}
use Rattle.behavior_runs.specs.scene_paths.Lookups.{tree_of}
use Rattle.lisa_activation.specs.Queued.{count}
use Rattle.pipeline_time.specs.Bits.{shown}
use Rattle.pipeline_runs.specs.Pipelines.{ShowsHardware}
use Rattle.activation_plans.specs.lisa_meaning.Cores.{core_of}
use Rattle.activation_plans.specs.lisa_meaning.States.{after_edges, first_contents}
use Rattle.lisa_sim.specs.Bodies.{Seen, lasting_of}
use Rattle.lisa_sim.proofs.Restored.{first_some, first_shown}
use Rattle.lisa_sim.proofs.states.restart.Goals as goal

pub restore-requires-clause-reached : goal.restore-requires-clause-reached
restore-requires-clause-reached c =
    let old = c.args.pipeline.now.edge.store in
    let new = c.restart.new.self in
    first_some (tree_of old.described) (tree_of new.described) (count c.args.pipeline.now.edge.queues) (ap tree_of c.restart.ensures.described) (first_contents (tree_of old.described) old.image)

pub returns-clause-shows : goal.returns-clause-shows
returns-clause-shows c =
    let old = c.args.pipeline.now.edge.store in
    let new = c.restart.new.self in
    let end = c.restore.new.self in
    let d = tree_of old.described in
    subst (λ (b : Seen). ShowsHardware (lasting_of b) end.edge.queues end.words (shown (core_of d) (after_edges d old.image []))) (sym c.restore.ensures.store)
    (first_shown d (tree_of new.described) old.image (lasting_of new) end.edge.queues end.words (count c.args.pipeline.now.edge.queues) (ap tree_of c.restart.ensures.described) c.restart.ensures.memory c.restore.ensures.shows)
