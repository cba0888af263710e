use Rattle.std.proofs.Common.{◌∙◌, sym, ap}
use Rattle.std.specs.Prelude.{option_map}
use Rattle.std.specs.Borrow.{Bor}
use Rattle.lisa_tree.specs.declared.descriptions.Resource.{Resource}
use Rattle.lisa_tree.specs.Descriptions.{description_tree, resource_tree}
use Rattle.behavior_runs.proofs.Registered.{number_within, shape_least, shape_most, own_register, register_wide}
use Rattle.behavior_runs.proofs.registers.register_at.Goals as goal

pub before-requires : goal.before-requires
before-requires c = number_within (description_tree c.args.described.now) c.args.number (resource_tree c.in-Some.resource.now) (sym c.resource.ensures ∙ ap (option_map (λ (r : Bor Resource). resource_tree r.now)) c.in-Some.is)

pub invariant_of-result : goal.invariant_of-result
invariant_of-result c =
    let there = sym c.resource.ensures ∙ ap (option_map (λ (r : Bor Resource). resource_tree r.now)) c.in-Some.is in
    let is = sym c.register_shape.ensures ∙ c.in-Some-register_shape.is in
    record {
      least = shape_least (description_tree c.args.described.now) c.accepted.ensures c.args.number c.in-Some-register_shape.shape (resource_tree c.in-Some.resource.now) there is;
      most = shape_most (description_tree c.args.described.now) c.accepted.ensures c.args.number c.in-Some-register_shape.shape (resource_tree c.in-Some.resource.now) there is;
    }

pub returns-in-Some-register_shape : goal.returns-in-Some-register_shape
returns-in-Some-register_shape c =
    let there = sym c.resource.ensures ∙ ap (option_map (λ (r : Bor Resource). resource_tree r.now)) c.in-Some.is in
    let is = sym c.register_shape.ensures ∙ c.in-Some-register_shape.is in
    record {
      put = λ given m. own_register (description_tree c.args.described.now) c.args.number (resource_tree c.in-Some.resource.now) c.in-Some-register_shape.shape c.before-in-Some-register_shape.result.registers given m there is c.before-in-Some-register_shape.ensures.registers;
      width = λ one. register_wide (description_tree c.args.described.now) c.args.number c.before-in-Some-register_shape.result.registers c.in-Some-register_shape.shape one c.before-in-Some-register_shape.ensures.registers (resource_tree c.in-Some.resource.now) there is;
    }
