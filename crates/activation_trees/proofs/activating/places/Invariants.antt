use Rattle.activation_trees.proofs.Placing.{Placed}
use Rattle.activation_trees.proofs.activating.places.Given as goal

abbrev pub invariant-loop-occurrence : goal.invariant-loop-occurrence
invariant-loop-occurrence l = Placed l.occurrences l.occurrence-index l.counts.items l.places.items
