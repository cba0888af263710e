use Rattle.activation_trees.proofs.Ordered.{in_order, at_place}
use Rattle.activation_trees.proofs.laws.children_stand_in_order.Goals as goal

pub returns-clause-all : goal.returns-clause-all
returns-clause-all c = in_order

pub returns-clause-each : goal.returns-clause-each
returns-clause-each c = at_place
