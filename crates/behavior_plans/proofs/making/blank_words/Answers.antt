use Rattle.behavior_plans.proofs.Blanks.{filled}
use Rattle.behavior_plans.proofs.making.blank_words.Goals as goal

pub returns : goal.returns
returns c = filled c.resize.new.self.items c.new-words.result.items c.new-words.result.len c.args.count c.truth.result _ c.in_ok-resize.ensures.items c.new-words.ensures.items c.new-words.ensures.len c.truth.ensures
