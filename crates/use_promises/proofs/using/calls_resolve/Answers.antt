use Rattle.lisa_machine.proofs.Sound.{sound}
use Rattle.use_promises.proofs.Used.{call_fits}
use Rattle.use_promises.proofs.using.calls_resolve.Goals as goal

pub returns : goal.returns
returns c = λ d accepted o region scope n stands. let s = sound d accepted in call_fits d s.known s.kinds s.names s.stand s.uses o region scope n stands
