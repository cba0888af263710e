use Rattle.lisa_machine.proofs.Sound.{sound}
use Rattle.scene_promises.proofs.Nearest.{nearest}
use Rattle.scene_promises.proofs.naming.nearest_is_meant.Goals as goal

pub returns : goal.returns
returns c = λ d accepted scene runs n i at. nearest d (sound d accepted) scene runs n i at
