use Rattle.lowered_values.proofs.Lowering.{computes}
use Rattle.lowered_values.proofs.laws.expressions_compute.Goals as goal

pub returns : goal.returns
returns c p before pins s reader e from now is m has lies = computes p before pins s reader e from now is m has lies
