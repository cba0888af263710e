-- What is left has the first fault of all.
use Rattle.std.proofs.Common.{◌≡◌, drop, map}
use Rattle.lisa_tree.specs.Descriptions.{operation_tree}
use Rattle.description_places.specs.Places.{first, operations_places}
use Rattle.description_places.proofs.operations.walk_operations.Given as goal

abbrev pub invariant-loop-number : goal.invariant-loop-number
invariant-loop-number g l =
    first (g.C.Condition.breaks l.condition) (operations_places 0 (map operation_tree l.operations)) ≡ first (g.C.Condition.breaks l.condition) (operations_places l.number (map operation_tree (drop l.number l.operations)))
