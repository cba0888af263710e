use Rattle.std.proofs.Common.{◌≡◌, [], subst}
use Rattle.behavior_runs.specs.scene_paths.Lookups.{tree_of}
use Rattle.activation_plans.specs.lisa_meaning.States.{state_of}
use Rattle.pipeline_states.specs.Showing.{state_in}
use Rattle.lisa_sim.specs.Bodies.{lasting_of}
use Rattle.lisa_sim.specs.Runnings.{Running}
use Rattle.lisa_sim.proofs.Going.{shows_state}
use Rattle.lisa_sim.proofs.Keeping.{goes_on}
use Rattle.lisa_sim.proofs.runner.Runner.restart.Goals as goal

pub invariant_of-self : goal.invariant_of-self
invariant_of-self c =
    let m = c.self.inside in
    let end = c.restart.new.pipeline in
    let e = c.restart.ensures in
    goes_on m.pipeline.edge.store m.plan m.places.items m.pipeline.edge.queues m.pipeline.words c.self.invariant end.edge.store end.edge.queues end.words e.described e.image e.equipped
    (record { entries = []; shows = e.shows })

pub returns-clause-first : goal.returns-clause-first
returns-clause-first c =
    let m = c.self.inside in
    let i = c.self.invariant in
    let old = m.pipeline.edge.store in
    let end = c.restart.new.pipeline in
    subst (λ (r : Running). state_in m.places.items (lasting_of end.edge.store) end.edge.queues end.words ≡ state_of (tree_of r.described) r.image []) c.self.view_is
    (shows_state (tree_of old.described) old.image i.runs m.places.items i.places_are (lasting_of end.edge.store) end.edge.queues end.words [] c.restart.ensures.shows)
