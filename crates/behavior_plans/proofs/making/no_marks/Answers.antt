use Rattle.behavior_plans.proofs.Blanks.{copies}
use Rattle.behavior_plans.proofs.making.no_marks.Goals as goal

pub returns : goal.returns
returns c = copies c.resize.new.self.items c.new-marks.result.items c.new-marks.result.len c.args.count _ c.in_ok-resize.ensures.items c.new-marks.ensures.items c.new-marks.ensures.len
