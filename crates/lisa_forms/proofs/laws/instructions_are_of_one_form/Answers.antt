use Rattle.form_promises.proofs.lisa_machine_proofs.Sound.{sound}
use Rattle.lisa_forms.proofs.Formed.{some_form, one_form}
use Rattle.lisa_forms.proofs.laws.instructions_are_of_one_form.Goals as goal

pub returns-clause-some : goal.returns-clause-some
returns-clause-some c = λ d t accepted fits. some_form d (sound d accepted) t fits

pub returns-clause-one : goal.returns-clause-one
returns-clause-one c = λ d j k vs ws t accepted a b. one_form d (sound d accepted) j k vs ws t a b
