use Rattle.std.proofs.Common.{arith}
use Rattle.typed_values.proofs.ResetBlocks.{statement_count-Block}
use Rattle.typed_values.proofs.counts.+counts.Goals as goal

pub count_statement-returns-in-Block : goal.count_statement-returns-in-Block
count_statement-returns-in-Block t c = omega (arith, statement_count-Block c.args.statement.now c.in-Block.all c.deref.result.now c.in-Block.is c.deref.ensures.value)
