use Rattle.lowered_values.proofs.Computing.{picked_value}
use Rattle.lowered_values.proofs.laws.operands_choose.Goals as goal

pub returns : goal.returns
returns c p before pins now x v this other h = picked_value p before pins now x v this other h
