use Rattle.scene_promises.proofs.Agreed.{agreed}
use Rattle.scene_promises.proofs.reading.values_rest_on_names.Goals as goal

pub returns : goal.returns
returns c = λ r s e h. agreed r s e h
