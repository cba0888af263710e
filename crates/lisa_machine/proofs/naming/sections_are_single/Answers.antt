use Rattle.lisa_machine.proofs.Sound.{sound}
use Rattle.lisa_machine.proofs.Distinct.{one_section, one_pipe, one_fields}
use Rattle.lisa_machine.proofs.naming.sections_are_single.Goals as goal

pub returns-clause-sections : goal.returns-clause-sections
returns-clause-sections c = λ d accepted o j k s t a b same. one_section d (sound d accepted).names o j k s t a b same

pub returns-clause-pipelines : goal.returns-clause-pipelines
returns-clause-pipelines c = λ d accepted j k n m xs ys a b. one_pipe d (sound d accepted).names j k n m xs ys a b

pub returns-clause-fields : goal.returns-clause-fields
returns-clause-fields c = λ d accepted j k n m xs ys a b. one_fields d (sound d accepted).names j k n m xs ys a b
