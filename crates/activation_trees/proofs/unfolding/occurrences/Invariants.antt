use Rattle.std.proofs.Common.{◌-◌, length}
use Rattle.activation_trees.specs.Unfolding.{occurrences, IsUnfolding}
use Rattle.activation_trees.proofs.unfolding.occurrences.Given as goal

abbrev pub invariant-unfolding : goal.invariant-unfolding
invariant-unfolding g l = IsUnfolding (g.N.Names.tree l.names) l.found.items l.work.items

abbrev pub decreases-unfolding : goal.decreases-unfolding
decreases-unfolding g l = length (occurrences (g.N.Names.tree l.names)) - length l.found.items
