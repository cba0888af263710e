use Rattle.spelled_promises.proofs.Outer.{well_formed}
use Rattle.spelled_promises.proofs.Standing.{places_formed}
use Rattle.spelled_promises.proofs.places.spelled_places_are_well_formed.Goals as goal

pub returns : goal.returns
returns c = λ bytes d s. places_formed d (well_formed bytes d s)
