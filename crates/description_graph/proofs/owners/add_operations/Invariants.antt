use Rattle.std.proofs.Common.{◌≡◌, ◌++◌, drop, map}
use Rattle.lisa_tree.specs.Descriptions.{operation_tree}
use Rattle.lisa_tree.specs.Declarations.{choices_from}
use Rattle.description_graph.specs.Graph.{owners}
use Rattle.description_graph.proofs.owners.add_operations.Given as goal

abbrev pub invariant-loop-number : goal.invariant-loop-number
invariant-loop-number l = l.all.items ++ owners (choices_from l.number (map operation_tree (drop l.number l.operations))) ≡ l.fn.all.items ++ owners (choices_from 0 (map operation_tree l.operations))
