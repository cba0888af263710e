use Rattle.lisa_machine.proofs.Sound.{sound}
use Rattle.use_promises.proofs.Staged.{own_low, stage_fits, fields_piped}
use Rattle.use_promises.proofs.stages.stages_resolve.Goals as goal

pub returns-clause-heads : goal.returns-clause-heads
returns-clause-heads c = λ d accepted o operation pipe stage is has. stage_fits d (sound d accepted).stand o operation pipe stage is has

pub returns-clause-low : goal.returns-clause-low
returns-clause-low c = λ d o s is. own_low d o s is

pub returns-clause-fields : goal.returns-clause-fields
returns-clause-fields c = λ d accepted k pipe all is. let s = sound d accepted in fields_piped d s.known s.uses k pipe all is
