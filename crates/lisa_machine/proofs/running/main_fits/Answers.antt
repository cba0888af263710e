use Rattle.lisa_machine.proofs.Sound.{sound}
use Rattle.lisa_machine.proofs.Forward.{main_is}
use Rattle.lisa_machine.proofs.running.main_fits.Goals as goal

pub returns : goal.returns
returns c = λ d accepted. main_is d (sound d accepted).main
