use Rattle.std.proofs.Common.{◌≡◌, drop}
use Rattle.least_fixed_points.specs.Settles.{entry}
use Rattle.description_types.specs.Kinds.{any_refused}
use Rattle.description_types.proofs.type_facts.any_refused.Given as goal

abbrev pub invariant-loop-operation : goal.invariant-loop-operation
invariant-loop-operation l = any_refused (entry l.table) l.operations ≡ any_refused (entry l.table) (drop l.operation-index l.operations)
