use Rattle.lowered_values.proofs.Computing.{fitted_value, fitted_width}
use Rattle.lowered_values.proofs.laws.operands_fit.Goals as goal

pub returns-clause-bits : goal.returns-clause-bits
returns-clause-bits c p before pins now x v to h = fitted_value p before pins now x v to h

pub returns-clause-width : goal.returns-clause-width
returns-clause-width c p before pins now x v to h = fitted_width p before pins now x v to h
