use Rattle.behavior_plans.proofs.Blanks.{copies}
use Rattle.behavior_plans.proofs.making.no_outs.Goals as goal

pub returns : goal.returns
returns c = copies c.resize.new.self.items c.new-outs.result.items c.new-outs.result.len c.args.count _ c.in_ok-resize.ensures.items c.new-outs.ensures.items c.new-outs.ensures.len
