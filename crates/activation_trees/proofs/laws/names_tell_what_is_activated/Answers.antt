use Rattle.activation_trees.proofs.Ordered.{has_name}
use Rattle.activation_trees.proofs.laws.names_tell_what_is_activated.Goals as goal

pub returns : goal.returns
returns c = has_name
