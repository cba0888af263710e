use Rattle.lisa_machine.proofs.Sound.{accepted}
use Rattle.lisa_machine.proofs.soundness.sound_is_accepted.Goals as goal

pub returns : goal.returns
returns c = λ d is. accepted d is
