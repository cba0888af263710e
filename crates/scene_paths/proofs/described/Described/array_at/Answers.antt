use Rattle.std.proofs.Common.{◌∙◌, None, sym, ap}
use Rattle.std.specs.Prelude.{option_map}
use Rattle.std.specs.Borrow.{Bor}
use Rattle.lisa_tree.specs.declared.descriptions.Resource.{Resource}
use Rattle.lisa_tree.specs.Descriptions.{description_tree, resource_tree}
use Rattle.scene_paths.proofs.Widths.{number_within, type_least, type_most, type_deep, array_made, array_read}
use Rattle.scene_paths.proofs.described.Described.array_at.Goals as goal

pub before-requires : goal.before-requires
before-requires c = number_within (description_tree c.args.self.now) c.args.number (resource_tree c.in-Some.resource.now) (sym c.resource.ensures ∙ ap (option_map (λ (r : Bor Resource). resource_tree r.now)) c.in-Some.is)

pub invariant_of-result : goal.invariant_of-result
invariant_of-result c = record {
  least = type_least (description_tree c.args.self.now) c.accepted.ensures c.args.number c.in-Some-array_type.own (resource_tree c.in-Some.resource.now) (sym c.resource.ensures ∙ ap (option_map (λ (r : Bor Resource). resource_tree r.now)) c.in-Some.is) (sym c.array_type.ensures ∙ c.in-Some-array_type.is);
  most = type_most (description_tree c.args.self.now) c.accepted.ensures c.args.number c.in-Some-array_type.own (resource_tree c.in-Some.resource.now) (sym c.resource.ensures ∙ ap (option_map (λ (r : Bor Resource). resource_tree r.now)) c.in-Some.is) (sym c.array_type.ensures ∙ c.in-Some-array_type.is);
  deep = type_deep (description_tree c.args.self.now) c.accepted.ensures c.args.number c.in-Some-array_type.own (resource_tree c.in-Some.resource.now) (sym c.resource.ensures ∙ ap (option_map (λ (r : Bor Resource). resource_tree r.now)) c.in-Some.is) (sym c.array_type.ensures ∙ c.in-Some-array_type.is);
}

pub returns-in-Some-array_type : goal.returns-in-Some-array_type
returns-in-Some-array_type c = array_read (description_tree c.args.self.now) c.args.number (resource_tree c.in-Some.resource.now) c.in-Some-array_type.own c.before-in-Some-array_type.result.arrays (sym c.resource.ensures ∙ ap (option_map (λ (r : Bor Resource). resource_tree r.now)) c.in-Some.is) (sym c.array_type.ensures ∙ c.in-Some-array_type.is) c.before-in-Some-array_type.ensures.arrays

pub returns-in-None-array_type : goal.returns-in-None-array_type
returns-in-None-array_type c = array_made (description_tree c.args.self.now) c.args.number (resource_tree c.in-Some.resource.now) None (sym c.resource.ensures ∙ ap (option_map (λ (r : Bor Resource). resource_tree r.now)) c.in-Some.is) (sym c.array_type.ensures ∙ c.in-None-array_type.is)
