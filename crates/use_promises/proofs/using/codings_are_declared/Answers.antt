use Rattle.lisa_machine.proofs.Sound.{sound}
use Rattle.use_promises.proofs.Used.{coded_there}
use Rattle.use_promises.proofs.using.codings_are_declared.Goals as goal

pub returns : goal.returns
returns c = λ d accepted i k o e all is which h coding. let s = sound d accepted in coded_there d s.known s.kinds s.names s.stand s.uses i k e is which o all h coding
