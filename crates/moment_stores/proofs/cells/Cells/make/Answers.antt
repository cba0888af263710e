use Rattle.std.proofs.Common.{rules}
use Rattle.moment_stores.proofs.CellLemmas.{made_tracked}
use Rattle.moment_stores.proofs.cells.Cells.make.Goals as goal

pub invariant_of-result-clause-tracked : goal.invariant_of-result-clause-tracked
invariant_of-result-clause-tracked c = made_tracked _ _ _ _ _ c.in_ok-count.count (search rules) (search rules) (search rules) (search rules) (search rules)
