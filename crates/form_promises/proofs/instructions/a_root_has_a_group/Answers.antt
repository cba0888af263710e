use Rattle.lisa_machine.proofs.Sound.{sound}
use Rattle.form_promises.proofs.Rooted.{root_chosen, without_root}
use Rattle.form_promises.proofs.instructions.a_root_has_a_group.Goals as goal

pub returns-clause-some : goal.returns-clause-some
returns-clause-some c = λ d accepted o is. root_chosen d (sound d accepted) o is

pub returns-clause-none : goal.returns-clause-none
returns-clause-none c = λ d none. without_root d none
