use Rattle.std.proofs.Common.{◌≡◌, List, ℕ, [], ◌∷◌, ◌++◌, refl, subst}
use Rattle.behavior_runs.specs.scene_paths.Lookups.{tree_of}
use Rattle.activation_plans.specs.lisa_meaning.States.{state_of}
use Rattle.pipeline_states.specs.Showing.{state_in}
use Rattle.lisa_sim.specs.Bodies.{lasting_of}
use Rattle.lisa_sim.specs.Seeing.{IsLastSeen}
use Rattle.lisa_sim.specs.Runnings.{Running}
use Rattle.lisa_sim.proofs.Going.{reached_on, leads_on, last_seen, same_described, same_image}
use Rattle.lisa_sim.proofs.Keeping.{goes_on}
use Rattle.lisa_sim.proofs.runner.Runner.edge_seen.Goals as goal

pub invariant_of-self : goal.invariant_of-self
invariant_of-self c =
    let m = c.self.inside in
    let i = c.self.invariant in
    let old = m.pipeline.edge.store in
    let end = c.run_edge_seen-seen.new.self in
    let new = end.edge.store in
    let d = tree_of old.described in
    let kept = c.run_edge_seen-seen.ensures.kept in
    let reached = reached_on d old.image i.runs (c.edges_have_items.ensures d i.runs.accepted i.runs.sound) (c.items_show_all.ensures d) (c.edges_are_shown.ensures d) d refl (lasting_of old) m.pipeline.edge.queues m.pipeline.words c.args.pins.now (lasting_of new) end.edge.queues end.words i.reached c.run_edge_seen-seen.ensures.leads in
    goes_on old m.plan m.places.items m.pipeline.edge.queues m.pipeline.words i new end.edge.queues end.words (same_described old new kept) (same_image old new kept) c.run_edge_seen-seen.ensures.equipped reached

pub returns-clause-leads : goal.returns-clause-leads
returns-clause-leads c =
    let m = c.self.inside in
    let i = c.self.invariant in
    let old = m.pipeline.edge.store in
    let end = c.run_edge_seen-seen.new.self in
    let new = end.edge.store in
    let d = tree_of old.described in
    subst (λ (r : Running). (l : List (List ℕ)) → r.present ≡ state_of (tree_of r.described) r.image l → state_in m.places.items (lasting_of new) end.edge.queues end.words ≡ state_of (tree_of r.described) r.image (l ++ c.args.pins.now ∷ [])) c.self.view_is
    (λ l same. leads_on d old.image i.runs (c.edges_have_items.ensures d i.runs.accepted i.runs.sound) (c.items_show_all.ensures d) (c.edges_are_shown.ensures d) d refl (lasting_of old) m.pipeline.edge.queues m.pipeline.words c.args.pins.now (lasting_of new) end.edge.queues end.words i.reached c.run_edge_seen-seen.ensures.leads m.places.items i.places_are l same)

pub returns-clause-seen : goal.returns-clause-seen
returns-clause-seen c =
    let m = c.self.inside in
    let i = c.self.invariant in
    let old = m.pipeline.edge.store in
    let d = tree_of old.described in
    subst (λ (r : Running). (l : List (List ℕ)) → r.present ≡ state_of (tree_of r.described) r.image l → IsLastSeen (tree_of r.described) r.image (l ++ c.args.pins.now ∷ []) c.run_edge_seen-seen.result) c.self.view_is
    (λ l same. last_seen d old.image i.runs (c.edges_have_items.ensures d i.runs.accepted i.runs.sound) (c.items_show_all.ensures d) (c.all_is_shown.ensures d) (lasting_of old) m.pipeline.edge.queues m.pipeline.words c.args.pins.now i.reached c.run_edge_seen-seen.result c.run_edge_seen-seen.ensures.seen m.places.items i.places_are l same)
