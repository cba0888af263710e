use Rattle.lisa_machine.proofs.Sound.{sound}
use Rattle.lisa_machine.proofs.Forward.{stall_fits, flush_fits}
use Rattle.lisa_machine.proofs.running.controls_fit.Goals as goal

pub returns-clause-stalls : goal.returns-clause-stalls
returns-clause-stalls c = λ d accepted o region scope pipe stage stands. let s = sound d accepted in stall_fits d s.stand s.controls o region scope pipe stage stands

pub returns-clause-flushes : goal.returns-clause-flushes
returns-clause-flushes c = λ d accepted o region scope pipe stage stands. let s = sound d accepted in flush_fits d s.stand s.controls o region scope pipe stage stands
