use Rattle.lisa_machine.proofs.Sound.{sound}
use Rattle.form_promises.proofs.Listed.{forms_distinct}
use Rattle.form_promises.proofs.instructions.forms_are_distinct.Goals as goal

pub returns : goal.returns
returns c = λ d accepted. forms_distinct d (sound d accepted)
