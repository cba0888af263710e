use Rattle.std.proofs.Common.{ap, ◌∙◌}
use Rattle.least_fixed_points.specs.Settles.{entry}
use Rattle.description_types.specs.Kinds.{both_types, unrefused}
use Rattle.description_types.proofs.Merging.{added_step, added_last}
use Rattle.description_types.proofs.Associating.{types_associate}
use Rattle.description_types.proofs.type_facts.known_together.Goals as goal

pub loop-operation-preserved : goal.loop-operation-preserved
loop-operation-preserved c =
    added_step both_types types_associate (λ o. unrefused (entry c.args.table.now o)) c.loop-operation.so_far c.unrefused.result c.added-so_far.result c.args.operations.now c.loop-operation.operation-index
    c.loop-operation-test.true (c.unrefused.ensures ∙ ap unrefused c.known_operation.ensures) c.added-so_far.ensures
    ∙ c.loop-operation.invariant

pub returns : goal.returns
returns c = added_last both_types (λ o. unrefused (entry c.args.table.now o)) c.loop-operation.so_far c.args.operations.now c.loop-operation.operation-index c.loop-operation-test.false ∙ c.loop-operation.invariant
