use Rattle.std.proofs.Common.{arith}
use Rattle.lisa_tree.specs.Descriptions.{description_tree}
use Rattle.scene_paths.proofs.Moved.{kept_at}
use Rattle.scene_paths.proofs.Placing.{places_counted, register_read, array_read, pin_read}
use Rattle.scene_paths.proofs.described.Described.before.Goals as goal

pub index-requires : goal.index-requires
index-requires c =
    let kept = kept_at c.self.inside.tables.tables.globals.description.now c.args.self.now c.self.view_is c.self.invariant in
    let counted = places_counted (description_tree c.args.self.now) c.self.inside.places.items kept.of_places in
    omega (arith, counted, c.requires, c.self.inside.places.ok)

pub returns-clause-registers : goal.returns-clause-registers
returns-clause-registers c =
    let kept = kept_at c.self.inside.tables.tables.globals.description.now c.args.self.now c.self.view_is c.self.invariant in
    register_read (description_tree c.args.self.now) c.self.inside.places.items c.args.number c.index.result.now kept.of_places c.requires c.index.ensures

pub returns-clause-arrays : goal.returns-clause-arrays
returns-clause-arrays c =
    let kept = kept_at c.self.inside.tables.tables.globals.description.now c.args.self.now c.self.view_is c.self.invariant in
    array_read (description_tree c.args.self.now) c.self.inside.places.items c.args.number c.index.result.now kept.of_places c.requires c.index.ensures

pub returns-clause-pins : goal.returns-clause-pins
returns-clause-pins c =
    let kept = kept_at c.self.inside.tables.tables.globals.description.now c.args.self.now c.self.view_is c.self.invariant in
    pin_read (description_tree c.args.self.now) c.self.inside.places.items c.args.number c.index.result.now kept.of_places c.requires c.index.ensures
