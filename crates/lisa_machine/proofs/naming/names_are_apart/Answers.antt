use Rattle.lisa_machine.proofs.Sound.{sound}
use Rattle.lisa_machine.proofs.Named.{entry_found}
use Rattle.lisa_machine.proofs.Distinct.{operation_apart, local_fresh, counter_fresh}
use Rattle.lisa_machine.proofs.naming.names_are_apart.Goals as goal

pub returns-clause-operations : goal.returns-clause-operations
returns-clause-operations c = λ d accepted o operation is. operation_apart d (sound d accepted).names o operation is

pub returns-clause-declared : goal.returns-clause-declared
returns-clause-declared c = λ d accepted i e is. (entry_found d (sound d accepted).names i e is).no_resource

pub returns-clause-locals : goal.returns-clause-locals
returns-clause-locals c = λ d accepted o region scope shape n value s. local_fresh d (sound d accepted).names o region scope shape n value s

pub returns-clause-counters : goal.returns-clause-counters
returns-clause-counters c = λ d accepted o region scope head shape typed s. counter_fresh d (sound d accepted).names o region scope head shape typed s
