use Rattle.std.proofs.Common.{◌∙◌}
use Rattle.least_fixed_points.specs.Settles.{entry}
use Rattle.description_types.specs.Kinds.{both_assignable}
use Rattle.description_types.proofs.Merging.{added_step, added_last}
use Rattle.description_types.proofs.Associating.{assignables_associate}
use Rattle.description_types.proofs.assignable_facts.known_together.Goals as goal

pub loop-operation-preserved : goal.loop-operation-preserved
loop-operation-preserved c =
    added_step both_assignable assignables_associate (entry c.args.table.now) c.loop-operation.so_far c.known_operation.result c.added-so_far.result c.args.operations.now c.loop-operation.operation-index
    c.loop-operation-test.true c.known_operation.ensures c.added-so_far.ensures
    ∙ c.loop-operation.invariant

pub returns : goal.returns
returns c = added_last both_assignable (entry c.args.table.now) c.loop-operation.so_far c.args.operations.now c.loop-operation.operation-index c.loop-operation-test.false ∙ c.loop-operation.invariant
