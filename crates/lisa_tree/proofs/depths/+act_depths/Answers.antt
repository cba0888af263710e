use Rattle.std.proofs.Common.{arith}
use Rattle.lisa_tree.proofs.DepthLaws.{act_depth-Choose, act_depth-ChooseElse}
use Rattle.lisa_tree.proofs.depths.+act_depths.Goals as goal

pub act_depth-returns-in-None : goal.act_depth-returns-in-None
act_depth-returns-in-None t c =
    let a = c.in-Choose in
    omega (arith, act_depth-Choose c.args.a.now a.test a.chosen a.other c.deref.result.now a.is c.in-None.is c.deref.ensures.value)

pub act_depth-returns-in-Some : goal.act_depth-returns-in-Some
act_depth-returns-in-Some t c =
    let a = c.in-Choose in
    omega
    (arith, act_depth-ChooseElse c.args.a.now a.test a.chosen c.in-Some.other a.other c.deref.result.now c.deref-in-Some.result.now a.is c.in-Some.is c.deref.ensures.value c.deref-in-Some.ensures.value)
