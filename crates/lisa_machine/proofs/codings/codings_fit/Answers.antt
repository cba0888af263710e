use Rattle.lisa_machine.proofs.Sound.{sound}
use Rattle.lisa_machine.proofs.Standing.{coding_stand}
use Rattle.lisa_machine.proofs.Fitting.{coding_fits}
use Rattle.lisa_machine.proofs.codings.codings_fit.Goals as goal

pub returns : goal.returns
returns c = λ d accepted o part is. let s = sound d accepted in coding_fits d s.known s.stand s.uses s.widths o part (coding_stand d o part is)
