use Rattle.spelled_promises.specs.Trees.{IsWellFormedOperation}
use Rattle.spelled_promises.proofs.Outer.{well_formed}
use Rattle.spelled_promises.proofs.Found.{one_of}
use Rattle.spelled_promises.proofs.trees.spelled_operations_are_well_formed.Goals as goal

pub returns : goal.returns
returns c = λ bytes d s o operation is. one_of IsWellFormedOperation d.operations o operation (well_formed bytes d s).operations is
