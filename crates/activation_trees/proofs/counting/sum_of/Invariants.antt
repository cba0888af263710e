use Rattle.std.proofs.Common.{◌≡◌, drop, Some}
use Rattle.least_fixed_points.specs.Settles.{entry}
use Rattle.activation_trees.specs.Sums.{summed}
use Rattle.activation_trees.proofs.counting.sum_of.Given as goal

abbrev pub invariant-loop-operation : goal.invariant-loop-operation
invariant-loop-operation l = summed (entry l.table) l.so_far (drop l.operation-index l.operations) ≡ summed (entry l.table) (Some 0) l.operations
