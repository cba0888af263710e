use Rattle.activation_trees.proofs.Lying.{has_activator}
use Rattle.activation_trees.proofs.laws.activators_come_first.Goals as goal

pub returns : goal.returns
returns c = has_activator
