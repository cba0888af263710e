use Rattle.std.proofs.Common.{ℕ, List, map, ap, ◌∙◌}
use Rattle.std.specs.Prelude.{position}
use Rattle.lisa_tree.specs.declared.tokens.Shape.{Shape}
use Rattle.lisa_tree.specs.declared.descriptions.Resource.{Resource}
use Rattle.lisa_tree.specs.declared.descriptions.Operation.{Operation}
use Rattle.lisa_tree.specs.Descriptions.{OperationTree, resource_tree, operation_tree}
use Rattle.lisa_tree.specs.Same.{same_name}
use Rattle.lisa_tree.specs.Resources.{is_named, stages_in, fields_in}
use Rattle.description_tables.proofs.Positions.{position-map}
use Rattle.description_tables.proofs.globals.Globals.make.Goals as goal

pub invariant_of-result : goal.invariant_of-result
invariant_of-result c =
    let d = c.args.description.now in
    let boundary = c.boundary_fields-boundary.ensures ∙ ap (λ (all : List Resource). fields_in (map resource_tree all)) c.deref-3.ensures.value in
    record {
      of_resources = λ n.
          c.in_ok-resources.ensures n
          ∙ ap (position (λ (r : Resource). is_named n (resource_tree r))) c.deref.ensures.value
          ∙ position-map resource_tree (is_named n) d.resources.items;
      of_stages = λ n.
          c.in_ok-stages.ensures n
          ∙ ap (position (same_name n)) (c.pipeline_stages.ensures ∙ ap (λ (all : List Resource). stages_in (map resource_tree all)) c.deref-2.ensures.value);
      of_boundary = boundary;
      of_fields = λ n. c.in_ok-fields.ensures n ∙ ap (position (λ (f : Shape × List ℕ). same_name n f.1)) boundary;
      of_operations = λ n.
          c.in_ok-operations.ensures n
          ∙ ap (position (λ (o : Operation). same_name n o.name)) c.deref-4.ensures.value
          ∙ position-map operation_tree (λ (o : OperationTree). same_name n o.name) d.operations.items;
    }
