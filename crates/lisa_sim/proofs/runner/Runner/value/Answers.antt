use Rattle.std.proofs.Common.{◌≡◌, Some, ap, arith}
use Rattle.std.specs.Prelude.{slice_get}
use Rattle.item_layouts.specs.declared.place.ItemPlace.TheVariants.{Word, Bit}
use Rattle.behavior_runs.specs.scene_paths.Lookups.{tree_of}
use Rattle.lisa_sim.specs.Bodies.{lasting_of}
use Rattle.lisa_sim.specs.Runnings.{Running}
use Rattle.lisa_sim.proofs.Going.{word_below, bit_below, bit_listed}
use Rattle.lisa_sim.proofs.Keeping.{placed_at}
use Rattle.lisa_sim.proofs.runner.Runner.value.Goals as goal

pub bounds-self-inside-stage : goal.bounds-self-inside-stage
bounds-self-inside-stage c =
    let m = c.self.inside in
    let i = c.self.invariant in
    let body = m.pipeline.edge.store in
    let at = placed_at m.places.items (lasting_of body) m.pipeline.edge.queues m.pipeline.words c.args.self.now.present c.args.item c.index.result.now (Word c.in-Word.stage) _ (ap (λ (r : Running). r.present) c.self.view_is) c.requires c.index.ensures c.in-Word.is in
    word_below (tree_of body.described) body.image i.runs m.places.items i.places_are c.in-Word.stage c.args.item at

pub stands-requires-clause-stage : goal.stands-requires-clause-stage
stands-requires-clause-stage c =
    let m = c.self.inside in
    let i = c.self.invariant in
    let body = m.pipeline.edge.store in
    let at = placed_at m.places.items (lasting_of body) m.pipeline.edge.queues m.pipeline.words c.args.self.now.present c.args.item c.index.result.now (Bit c.in-Bit.stage c.in-Bit.occurrence) _ (ap (λ (r : Running). r.present) c.self.view_is) c.requires c.index.ensures c.in-Bit.is in
    let low = bit_below (tree_of body.described) body.image i.runs m.places.items i.places_are c.in-Bit.stage c.in-Bit.occurrence c.args.item at in
    let same = c.from.ensures in
    omega (arith, low, same)

pub stands-requires-clause-occurrence : goal.stands-requires-clause-occurrence
stands-requires-clause-occurrence c =
    let m = c.self.inside in
    let i = c.self.invariant in
    let body = m.pipeline.edge.store in
    let at = placed_at m.places.items (lasting_of body) m.pipeline.edge.queues m.pipeline.words c.args.self.now.present c.args.item c.index.result.now (Bit c.in-Bit.stage c.in-Bit.occurrence) _ (ap (λ (r : Running). r.present) c.self.view_is) c.requires c.index.ensures c.in-Bit.is in
    let low = bit_listed (tree_of body.described) body.image i.runs m.places.items i.places_are c.in-Bit.stage c.in-Bit.occurrence c.args.item at in
    let many = i.counted in
    omega (arith, low, many)
