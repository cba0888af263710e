-- The sum so far and that of the operations that are left make that of all.
use Rattle.std.proofs.Common.{drop}
use Rattle.least_fixed_points.specs.Settles.{entry}
use Rattle.text_counts.specs.Sums.{sum_of}
use Rattle.text_counts.proofs.Adding.{Summing}
use Rattle.text_counts.proofs.sums.sum_of.Given as goal

abbrev pub invariant-loop-operation : goal.invariant-loop-operation
invariant-loop-operation l = Summing l.sum (sum_of l.more (entry l.table) (drop l.operation-index l.operations)) (sum_of l.more (entry l.table) l.operations)
