use Rattle.checked_descriptions.proofs.Listed.{sound_parts, parts_sound, first_parts, parts_first}
use Rattle.checked_descriptions.proofs.laws.conditions_are_in_order.Goals as goal

pub returns-clause-sound : goal.returns-clause-sound
returns-clause-sound c = λ d. (sound_parts d, parts_sound d)

pub returns-clause-first : goal.returns-clause-first
returns-clause-first c = λ d f. (first_parts d f, parts_first d f)
