use Rattle.lisa_machine.proofs.Standing.{resource_stands, operation_stands}
use Rattle.lisa_machine.proofs.contents.operations_stand.Goals as goal

pub returns-clause-resources : goal.returns-clause-resources
returns-clause-resources c = λ d k r is. resource_stands d k r is

pub returns-clause-operations : goal.returns-clause-operations
returns-clause-operations c = λ d o operation is. operation_stands d o operation is
