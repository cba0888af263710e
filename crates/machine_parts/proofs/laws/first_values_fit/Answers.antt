use Rattle.machine_parts.proofs.Fitting.{firsts_fit}
use Rattle.machine_parts.proofs.laws.first_values_fit.Goals as goal

pub returns : goal.returns
returns c = λ d. firsts_fit d
