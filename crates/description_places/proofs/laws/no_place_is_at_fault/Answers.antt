use Rattle.description_places.proofs.Sound.{all_sound}
use Rattle.description_places.proofs.laws.no_place_is_at_fault.Goals as goal

pub returns : goal.returns
returns c = λ breaks all none. all_sound breaks all none
