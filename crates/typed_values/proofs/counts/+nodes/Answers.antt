use Rattle.std.proofs.Common.{arith}
use Rattle.typed_values.proofs.ResetBlocks.{statement_nodes-Block}
use Rattle.typed_values.proofs.counts.+nodes.Goals as goal

pub statement_nodes-returns-in-Block : goal.statement_nodes-returns-in-Block
statement_nodes-returns-in-Block t c = omega (arith, statement_nodes-Block c.args.statement.now c.in-Block.all c.deref.result.now c.in-Block.is c.deref.ensures.value)
