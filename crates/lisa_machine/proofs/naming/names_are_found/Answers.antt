use Rattle.lisa_machine.proofs.Sound.{sound}
use Rattle.lisa_machine.proofs.Named.{entry_found}
use Rattle.lisa_machine.proofs.Distinct.{resource_found, operation_found}
use Rattle.lisa_machine.proofs.naming.names_are_found.Goals as goal

pub returns-clause-resources : goal.returns-clause-resources
returns-clause-resources c = λ d accepted k r n at is. resource_found d (sound d accepted).names k r n at is

pub returns-clause-operations : goal.returns-clause-operations
returns-clause-operations c = λ d accepted o operation is. operation_found d (sound d accepted).names o operation is

pub returns-clause-declared : goal.returns-clause-declared
returns-clause-declared c = λ d accepted i e is. (entry_found d (sound d accepted).names i e is).declared
