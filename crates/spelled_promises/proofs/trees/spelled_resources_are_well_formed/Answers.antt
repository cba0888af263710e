use Rattle.spelled_promises.specs.Trees.{IsWellFormedResource}
use Rattle.spelled_promises.proofs.Outer.{well_formed}
use Rattle.spelled_promises.proofs.Found.{one_of}
use Rattle.spelled_promises.proofs.trees.spelled_resources_are_well_formed.Goals as goal

pub returns : goal.returns
returns c = λ bytes d s k r is. one_of IsWellFormedResource d.resources k r (well_formed bytes d s).resources is
