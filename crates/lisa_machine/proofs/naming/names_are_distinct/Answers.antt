use Rattle.lisa_machine.proofs.Sound.{sound}
use Rattle.lisa_machine.proofs.Distinct.{resources_distinct, operations_distinct, declared_distinct, stages_distinct, fields_distinct, alternatives_distinct}
use Rattle.lisa_machine.proofs.naming.names_are_distinct.Goals as goal

pub returns-clause-resources : goal.returns-clause-resources
returns-clause-resources c = λ d accepted. resources_distinct d (sound d accepted).names

pub returns-clause-operations : goal.returns-clause-operations
returns-clause-operations c = λ d accepted. operations_distinct d (sound d accepted).names

pub returns-clause-declared : goal.returns-clause-declared
returns-clause-declared c = λ d accepted o. declared_distinct d (sound d accepted).names o

pub returns-clause-stages : goal.returns-clause-stages
returns-clause-stages c = λ d accepted. stages_distinct d (sound d accepted).names

pub returns-clause-fields : goal.returns-clause-fields
returns-clause-fields c = λ d accepted. fields_distinct d (sound d accepted).names

pub returns-clause-alternatives : goal.returns-clause-alternatives
returns-clause-alternatives c = λ d accepted k x is. alternatives_distinct d (sound d accepted).names k x is
