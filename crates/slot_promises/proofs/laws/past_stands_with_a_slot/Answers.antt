use Rattle.slot_promises.proofs.Standing.{past_has_slot, due_has_slot}
use Rattle.slot_promises.proofs.laws.past_stands_with_a_slot.Goals as goal

pub returns-clause-standing : goal.returns-clause-standing
returns-clause-standing g c core sound = past_has_slot core sound

pub returns-clause-due : goal.returns-clause-due
returns-clause-due g c core sound = due_has_slot core sound
