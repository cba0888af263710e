use Rattle.std.proofs.Common.{◌≡◌, ◌++◌, length}
use Rattle.std.specs.Prelude.{reverse}
use Rattle.activation_trees.proofs.unfolding.put_reversed.Given as goal

abbrev pub invariant-each : goal.invariant-each
invariant-each l = l.all.items ++ reverse l.work.items ≡ l.fn.all.items ++ reverse l.fn.work.items

abbrev pub decreases-each : goal.decreases-each
decreases-each l = length l.all.items
