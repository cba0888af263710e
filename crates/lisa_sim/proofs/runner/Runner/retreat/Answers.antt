use Rattle.std.proofs.Common.{◌≡◌, ◌∙◌, List, ℕ, subst, sym}
use Rattle.behavior_runs.specs.scene_paths.Lookups.{tree_of}
use Rattle.activation_plans.specs.lisa_meaning.States.{state_of}
use Rattle.pipeline_states.specs.Showing.{state_in}
use Rattle.lisa_sim.specs.Bodies.{lasting_of}
use Rattle.lisa_sim.specs.Runnings.{Running, IsBefore}
use Rattle.lisa_sim.proofs.Going.{shows_state}
use Rattle.lisa_sim.proofs.Keeping.{goes_on}
use Rattle.lisa_sim.proofs.runner.Runner.retreat.Goals as goal

pub invariant_of-self : goal.invariant_of-self
invariant_of-self c =
    let m = c.self.inside in
    let end = c.retreat.new.pipeline in
    let e = c.retreat.ensures in
    let before = subst (λ (r : Running). (entries : List (List ℕ)) × IsBefore (tree_of r.described) r.image r.present.cells c.args.items.now c.args.touches.now entries) (sym c.self.view_is) c.requires in
    goes_on m.pipeline.edge.store m.plan m.places.items m.pipeline.edge.queues m.pipeline.words c.self.invariant end.edge.store end.edge.queues end.words e.described e.image e.equipped
    (record { entries = before.0; shows = e.shows before.0 before.1 })

pub returns-clause-back : goal.returns-clause-back
returns-clause-back c =
    let m = c.self.inside in
    let i = c.self.invariant in
    let old = m.pipeline.edge.store in
    let end = c.retreat.new.pipeline in
    subst (λ (r : Running). (entries : List (List ℕ)) → IsBefore (tree_of r.described) r.image r.present.cells c.args.items.now c.args.touches.now entries → state_in m.places.items (lasting_of end.edge.store) end.edge.queues end.words ≡ state_of (tree_of r.described) r.image entries) c.self.view_is
    (λ entries before. shows_state (tree_of old.described) old.image i.runs m.places.items i.places_are (lasting_of end.edge.store) end.edge.queues end.words entries (c.retreat.ensures.shows entries before))
