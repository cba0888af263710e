use Rattle.noted_names.proofs.Kept.{one_slot_more}
use Rattle.noted_names.proofs.memos.no_slots.Goals as goal

pub slots-preserved : goal.slots-preserved
slots-preserved c = λ f. one_slot_more f c.slots.slots.items c.push.new.self.items (c.slots.invariant f) c.in_ok-push.ensures.items
