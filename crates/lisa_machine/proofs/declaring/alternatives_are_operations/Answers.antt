use Rattle.std.proofs.Common.{◌∙◌, ap, length}
use Rattle.lisa_machine.proofs.Sound.{sound}
use Rattle.lisa_machine.proofs.Choosing.{choice_names, numbers_counted, alternatives_are, group_left, instance_is, same_numbers}
use Rattle.lisa_machine.proofs.declaring.alternatives_are_operations.Goals as goal

pub returns-clause-names : goal.returns-clause-names
returns-clause-names c = λ d accepted k x is. choice_names d (sound d accepted).stand k x is

pub returns-clause-numbers : goal.returns-clause-numbers
returns-clause-numbers c = λ d accepted k x is. same_numbers d k x is (choice_names d (sound d accepted).stand k x is)

pub returns-clause-count : goal.returns-clause-count
returns-clause-count c = λ d accepted k x is. ap length (alternatives_are d k x is) ∙ numbers_counted d x.alternatives (choice_names d (sound d accepted).stand k x is)

pub returns-clause-groups : goal.returns-clause-groups
returns-clause-groups c = λ d accepted i k is. let s = sound d accepted in group_left d s.known s.names s.uses i k is

pub returns-clause-instances : goal.returns-clause-instances
returns-clause-instances c = λ d accepted i k is. let s = sound d accepted in instance_is d s.known s.names s.uses s.stand i k is
