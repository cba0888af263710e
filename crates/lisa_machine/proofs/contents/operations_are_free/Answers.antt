use Rattle.std.proofs.Common.{inl, refl}
use Rattle.description_places.specs.Places.{operation_places}
use Rattle.lisa_machine.proofs.Among.{free_place, free_places}
use Rattle.lisa_machine.proofs.Standing.{operation_stands}
use Rattle.lisa_machine.proofs.contents.operations_are_free.Goals as goal

pub returns-clause-head : goal.returns-clause-head
returns-clause-head c = λ breaks d free o operation is. free_place breaks d free _ (operation_stands d o operation is _ (inl refl))

pub returns-clause-operations : goal.returns-clause-operations
returns-clause-operations c = λ breaks d free o operation is. free_places breaks d free (operation_places o operation) (operation_stands d o operation is)
