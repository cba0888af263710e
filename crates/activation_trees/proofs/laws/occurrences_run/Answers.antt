use Rattle.activation_trees.proofs.Lying.{runs}
use Rattle.activation_trees.proofs.laws.occurrences_run.Goals as goal

pub returns : goal.returns
returns c = runs
