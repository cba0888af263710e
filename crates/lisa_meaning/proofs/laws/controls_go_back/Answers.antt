use Rattle.use_promises.proofs.lisa_machine_proofs.Sound.{sound}
use Rattle.lisa_meaning.proofs.Back.{controls_back}
use Rattle.lisa_meaning.proofs.laws.controls_go_back.Goals as goal

pub returns : goal.returns
returns c d accepted = controls_back d (sound d accepted)
