use Rattle.lisa_machine.proofs.Sound.{sound}
use Rattle.lisa_machine.proofs.Standing.{activation_stand}
use Rattle.lisa_machine.proofs.Fitting.{acts_children}
use Rattle.lisa_machine.proofs.codings.activations_fit.Goals as goal

pub returns : goal.returns
returns c = λ d accepted o all is. let s = sound d accepted in acts_children d s.known s.stand s.uses o all (activation_stand d o all is)
