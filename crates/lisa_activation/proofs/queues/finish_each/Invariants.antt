use Rattle.lisa_activation.proofs.Places.{ColumnsTo}
use Rattle.lisa_activation.proofs.queues.finish_each.Given as goal

abbrev pub invariant-loop-column : goal.invariant-loop-column
invariant-loop-column l = ColumnsTo l.fn.columns l.columns l.held l.flushed l.column-index
