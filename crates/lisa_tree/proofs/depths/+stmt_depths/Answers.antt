use Rattle.std.proofs.Common.{arith}
use Rattle.lisa_tree.proofs.DepthLaws.{stmt_depth-Block}
use Rattle.lisa_tree.proofs.depths.+stmt_depths.Goals as goal

pub stmt_depth-returns-in-Block : goal.stmt_depth-returns-in-Block
stmt_depth-returns-in-Block t c = omega (arith, stmt_depth-Block c.args.s.now c.in-Block.all c.deref.result.now c.in-Block.is c.deref.ensures.value)
