use Rattle.behavior_readings.proofs.FrontLaws.{expression_found, expression_read}
use Rattle.behavior_readings.proofs.laws.expressions_are_read.Goals as goal

pub returns-clause-found : goal.returns-clause-found
returns-clause-found c = expression_found

pub returns-clause-only : goal.returns-clause-only
returns-clause-only c = expression_read
