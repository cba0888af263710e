use Rattle.lisa_machine.proofs.Sound.{sound}
use Rattle.lisa_machine.proofs.Forward.{onward, entering}
use Rattle.lisa_machine.proofs.running.activations_go_forward.Goals as goal

pub returns : goal.returns
returns c = λ d accepted. let s = sound d accepted in record { onward = onward d s.activations; entering = entering d s.main }
