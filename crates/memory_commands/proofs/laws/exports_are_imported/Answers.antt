use Rattle.memory_commands.proofs.Passes.{passes}
use Rattle.memory_commands.proofs.laws.exports_are_imported.Goals as goal

pub returns : goal.returns
returns c = passes c.hex_is_read_back.ensures c.memh_is_read_back.ensures (λ d sound. ((c.conditions_are_in_order.ensures.sound d).0 sound).0) c.machines_show.ensures
