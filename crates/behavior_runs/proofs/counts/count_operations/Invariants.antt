-- The most so far, and what is left.
use Rattle.std.proofs.Common.{◌≡◌, drop, map, max}
use Rattle.lisa_tree.specs.Descriptions.{operation_tree}
use Rattle.behavior_runs.specs.Rooms.{operations_locals}
use Rattle.behavior_runs.proofs.counts.count_operations.Given as goal

abbrev pub invariant-each : goal.invariant-each
invariant-each l = max l.most (operations_locals (map operation_tree (drop l.operation-index l.operations))) ≡ operations_locals (map operation_tree l.operations)
