use Rattle.std.proofs.Common.{◌∙◌, sym, ap}
use Rattle.std.specs.Prelude.{option_map}
use Rattle.std.specs.Borrow.{Bor}
use Rattle.lisa_tree.specs.declared.descriptions.Resource.{Resource}
use Rattle.lisa_tree.specs.Descriptions.{resource_tree}
use Rattle.scene_paths.specs.Lookups.{tree_of}
use Rattle.lowered_resources.proofs.Coded.{shape_least, shape_most}
use Rattle.lowered_resources.proofs.targets.put_register.Goals as goal

pub assign-requires-clause-least : goal.assign-requires-clause-least
assign-requires-clause-least c =
    let there = sym c.resource.ensures ∙ ap (option_map (λ (r : Bor Resource). resource_tree r.now)) c.in-Some.is in
    shape_least (tree_of c.args.described.now) c.accepted.ensures c.args.number c.in-Some-register_shape.shape (resource_tree c.in-Some.resource.now) there (sym c.register_shape.ensures ∙ c.in-Some-register_shape.is)

pub assign-requires-clause-most : goal.assign-requires-clause-most
assign-requires-clause-most c =
    let there = sym c.resource.ensures ∙ ap (option_map (λ (r : Bor Resource). resource_tree r.now)) c.in-Some.is in
    shape_most (tree_of c.args.described.now) c.accepted.ensures c.args.number c.in-Some-register_shape.shape (resource_tree c.in-Some.resource.now) there (sym c.register_shape.ensures ∙ c.in-Some-register_shape.is)
