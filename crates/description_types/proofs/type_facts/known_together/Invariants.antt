use Rattle.std.proofs.Common.{◌≡◌, drop}
use Rattle.least_fixed_points.specs.Settles.{entry}
use Rattle.description_types.specs.Facts.{added, known_together}
use Rattle.description_types.specs.Kinds.{both_types, unrefused}
use Rattle.description_types.proofs.type_facts.known_together.Given as goal

abbrev pub invariant-loop-operation : goal.invariant-loop-operation
invariant-loop-operation l =
    added both_types l.so_far (known_together both_types (λ o. unrefused (entry l.table o)) (drop l.operation-index l.operations))
    ≡ known_together both_types (λ o. unrefused (entry l.table o)) l.operations
