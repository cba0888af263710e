use Rattle.std.proofs.Common.{[], None}
use Rattle.source_promises.proofs.OneAnswer.{one_object, object_or_fault}
use Rattle.source_promises.proofs.FirstFaults.{faults_are_one}
use Rattle.source_promises.proofs.answers.sources_have_one_answer.Goals as goal

pub returns-clause-object : goal.returns-clause-object
returns-clause-object c = λ d ls o p accepted has a b. one_object d accepted has ls o p a b

pub returns-clause-fault : goal.returns-clause-fault
returns-clause-fault c = λ d ls f g a b. faults_are_one d None [] ls f g a b

pub returns-clause-either : goal.returns-clause-either
returns-clause-either c = λ d ls o f a x. object_or_fault d ls o f a x
