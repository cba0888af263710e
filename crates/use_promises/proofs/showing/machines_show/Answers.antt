use Rattle.lisa_machine.proofs.Sound.{sound}
use Rattle.use_promises.proofs.Shown.{shown_fits}
use Rattle.use_promises.proofs.showing.machines_show.Goals as goal

pub returns : goal.returns
returns c = λ d accepted. let s = sound d accepted in shown_fits d s.names s.widths s.depths
