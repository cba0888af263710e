use Rattle.std.proofs.Common.{◌≡◌, List, ℕ, length, map, ap, ◌∙◌, subst}
use Rattle.item_layouts.specs.Layouts.{ItemValues, value_at}
use Rattle.lisa_engine.specs.Touches.{put_back}
use Rattle.activation_plans.specs.lisa_meaning.Moments.{Contents}
use Rattle.behavior_runs.specs.moment_stores.Changes.{with_cells}
use Rattle.behavior_runs.specs.moment_stores.Stores.{memory_of}
use Rattle.pipeline_states.specs.Putting.{IsPut}
use Rattle.lisa_sim.specs.Bodies.{Seen, lasting_of}
use Rattle.lisa_sim.proofs.Puttings.{cells_put}
use Rattle.lisa_sim.proofs.body.Body.put_back.Goals as goal

pub returns-clause-put : goal.returns-clause-put
returns-clause-put c v are =
    let store = c.self.inside.store in
    let put = c.put_items.ensures.put v are in
    let mid = c.put_items.new.store in
    let new = c.put_back.new.self in
    subst (λ (b : Seen). IsPut c.args.places.now v (length c.args.places.now) (lasting_of b) (with_cells (lasting_of b).cells (memory_of new))) c.self.view_is
    (cells_put c.args.places.now v (length c.args.places.now) (memory_of store) (memory_of mid) (memory_of new) _ put c.put_back.ensures.memory)

pub returns-clause-cells : goal.returns-clause-cells
returns-clause-cells c =
    let cells = ap (λ (m : Contents). m.cells) c.put_back.ensures.memory in
    let was = c.put_items.ensures.cells ∙ ap (λ (b : Seen). (lasting_of b).cells) c.self.view_is in
    cells ∙ ap (put_back c.args.touches.now) was
