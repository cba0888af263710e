use Rattle.std.proofs.Common.{ap, sym, subst, refl}
use Rattle.behavior_runs.specs.scene_paths.Lookups.{tree_of}
use Rattle.lisa_activation.specs.Queued.{count}
use Rattle.pipeline_time.specs.Bits.{shown}
use Rattle.pipeline_runs.specs.Pipelines.{ShowsHardware}
use Rattle.activation_plans.specs.lisa_meaning.Cores.{core_of}
use Rattle.activation_plans.specs.lisa_meaning.States.{after_edges}
use Rattle.lisa_sim.specs.Bodies.{Seen, lasting_of}
use Rattle.lisa_sim.proofs.Holds.{can_hold}
use Rattle.lisa_sim.proofs.Restored.{counted, back_some, back_shown}
use Rattle.lisa_sim.proofs.states.retreat.Goals as goal

pub put_back-requires-clause-count : goal.put_back-requires-clause-count
put_back-requires-clause-count c =
    let old = c.args.pipeline.now.edge.store in
    let d = tree_of old.described in
    let r = c.requires in
    counted d old.image r.runs (c.edges_have_items.ensures d r.runs.accepted r.runs.sound) (c.items_are_taken.ensures d) c.args.places.now c.args.items.now c.args.touches.now r.before.0 (lasting_of old).cells r.places r.before.1

pub put_back-requires-clause-fits : goal.put_back-requires-clause-fits
put_back-requires-clause-fits c =
    let old = c.args.pipeline.now.edge.store in
    let r = c.requires in
    can_hold (tree_of old.described) old.image r.runs r.before.0 c.args.places.now c.args.items.now r.places r.before.1.items_are

pub restore-requires-clause-reached : goal.restore-requires-clause-reached
restore-requires-clause-reached c =
    let old = c.args.pipeline.now.edge.store in
    let new = c.put_back.new.self in
    let d = tree_of old.described in
    let r = c.requires in
    back_some d old.image r.runs (c.edges_have_items.ensures d r.runs.accepted r.runs.sound) (c.items_are_taken.ensures d) c.args.places.now c.args.items.now c.args.touches.now r.before.0 (lasting_of old).cells r.places r.before.1
    (tree_of new.described) (count c.args.pipeline.now.edge.queues) (ap tree_of c.put_back.ensures.described)

pub returns-clause-shows : goal.returns-clause-shows
returns-clause-shows c entries before =
    let start = c.args.pipeline.now in
    let old = start.edge.store in
    let new = c.put_back.new.self in
    let end = c.restore.new.self in
    let d = tree_of old.described in
    let r = c.requires in
    subst (λ (b : Seen). ShowsHardware (lasting_of b) end.edge.queues end.words (shown (core_of d) (after_edges d old.image entries))) (sym c.restore.ensures.store)
    (back_shown d old.image r.runs (c.edges_have_items.ensures d r.runs.accepted r.runs.sound) (c.items_are_taken.ensures d) c.args.places.now c.args.items.now c.args.touches.now entries (lasting_of old).cells r.places before
    (c.put_items_are_held.ensures d) (lasting_of old) (lasting_of new) start.edge.queues start.words r.reached refl c.put_back.ensures.put c.put_back.ensures.cells
    (tree_of new.described) end.edge.queues end.words c.words-words.result (count start.edge.queues) (ap tree_of c.put_back.ensures.described) c.words-words.ensures c.restore.ensures.shows)
