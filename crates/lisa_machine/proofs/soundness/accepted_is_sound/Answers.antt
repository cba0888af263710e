use Rattle.lisa_machine.proofs.Sound.{sound}
use Rattle.lisa_machine.proofs.soundness.accepted_is_sound.Goals as goal

pub returns : goal.returns
returns c = λ d accepted. sound d accepted
