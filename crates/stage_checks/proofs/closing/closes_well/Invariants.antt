use Rattle.std.proofs.Common.{◌≡◌, drop, map}
use Rattle.std.specs.List.{list_all}
use Rattle.lisa_tree.specs.Descriptions.{operation_tree}
use Rattle.stage_checks.specs.Closing.{operation_closes}
use Rattle.stage_checks.proofs.closing.closes_well.Given as goal

abbrev pub invariant-loop-operation : goal.invariant-loop-operation
invariant-loop-operation l = list_all operation_closes (map operation_tree (drop l.operation-index l.operation-items)) ≡ list_all operation_closes (map operation_tree l.description.operations.items)
