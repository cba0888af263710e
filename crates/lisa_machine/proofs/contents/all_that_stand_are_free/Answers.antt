use Rattle.lisa_machine.proofs.Among.{free_place, free_places}
use Rattle.lisa_machine.proofs.contents.all_that_stand_are_free.Goals as goal

pub returns-clause-places : goal.returns-clause-places
returns-clause-places c = λ breaks d free all stand. free_places breaks d free all stand

pub returns-clause-place : goal.returns-clause-place
returns-clause-place c = λ breaks d free a stands. free_place breaks d free a stands
