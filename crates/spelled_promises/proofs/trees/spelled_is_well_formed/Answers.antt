use Rattle.spelled_promises.proofs.Outer.{well_formed}
use Rattle.spelled_promises.proofs.trees.spelled_is_well_formed.Goals as goal

pub returns : goal.returns
returns c = λ bytes d s. well_formed bytes d s
