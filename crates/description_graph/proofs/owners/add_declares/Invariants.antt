use Rattle.std.proofs.Common.{◌≡◌, ◌++◌, drop, map}
use Rattle.lisa_tree.specs.Descriptions.{declare_tree}
use Rattle.lisa_tree.specs.Declarations.{choices_in}
use Rattle.description_graph.specs.Graph.{owners}
use Rattle.description_graph.proofs.owners.add_declares.Given as goal

abbrev pub invariant-loop-declare : goal.invariant-loop-declare
invariant-loop-declare l = l.all.items ++ owners (choices_in l.operation (map declare_tree (drop l.declare-index l.declares))) ≡ l.fn.all.items ++ owners (choices_in l.operation (map declare_tree l.declares))
