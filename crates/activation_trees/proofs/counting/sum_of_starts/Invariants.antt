use Rattle.std.proofs.Common.{◌≡◌, drop, Some}
use Rattle.least_fixed_points.specs.Settles.{entry}
use Rattle.activation_trees.specs.Sums.{summed, start_nodes}
use Rattle.activation_trees.proofs.counting.sum_of_starts.Given as goal

abbrev pub invariant-loop-start : goal.invariant-loop-start
invariant-loop-start g l =
    summed (entry l.table) l.so_far (start_nodes (g.N.Names.tree l.names) (drop l.start-index l.starts))
    ≡ summed (entry l.table) (Some l.first) (start_nodes (g.N.Names.tree l.names) l.starts)
