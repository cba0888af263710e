-- The depth so far and that of the operations that are left make that of all.
use Rattle.std.proofs.Common.{◌≡◌, ◌-◌, ◌^◌, max, min, drop, map}
use Rattle.lisa_tree.specs.Descriptions.{operation_tree, operations_depth}
use Rattle.lisa_tree.proofs.depths.depth.Given as goal

abbrev pub invariant-loop-operation : goal.invariant-loop-operation
invariant-loop-operation l =
    max l.deepest (min (operations_depth (map operation_tree (drop l.operation-index l.d.operations.items))) (2 ^ 32 - 1))
    ≡ min (operations_depth (map operation_tree l.d.operations.items)) (2 ^ 32 - 1)
