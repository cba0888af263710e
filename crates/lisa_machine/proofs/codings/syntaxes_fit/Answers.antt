use Rattle.lisa_machine.proofs.Sound.{sound}
use Rattle.lisa_machine.proofs.Standing.{syntax_stand}
use Rattle.lisa_machine.proofs.Fitting.{syntax_fits}
use Rattle.lisa_machine.proofs.codings.syntaxes_fit.Goals as goal

pub returns : goal.returns
returns c = λ d accepted o all is. let s = sound d accepted in syntax_fits d s.known s.stand s.uses s.kinds o all (syntax_stand d o all is)
