use Rattle.scene_promises.proofs.Higher.{lists, listed_above}
use Rattle.scene_promises.proofs.naming.above_lists.Goals as goal

pub returns : goal.returns
returns c = λ d o p. (lists d o p, listed_above d o p)
