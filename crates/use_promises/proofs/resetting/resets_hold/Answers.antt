use Rattle.lisa_machine.proofs.Sound.{sound}
use Rattle.use_promises.proofs.Held.{reset_within}
use Rattle.use_promises.proofs.resetting.resets_hold.Goals as goal

pub returns : goal.returns
returns c = λ d accepted o region scope place named stands. reset_within d (sound d accepted).resets o region scope place named stands
