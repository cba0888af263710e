use Rattle.std.proofs.Common.{sym, ap}
use Rattle.lisa_engine.specs.Memory.{Memory}
use Rattle.lisa_tree.specs.Descriptions.{description_tree}
use Rattle.assembler_commands.proofs.ListingEnds.{there_finds, missing_finds}
use Rattle.assembler_commands.proofs.listing.check_memories.Goals as goal

pub returns : goal.returns
returns c = there_finds (description_tree c.args.machine.now) c.args.image.now (sym (rw c.in-Ok.ensures.items at (rw c.deref.ensures.value at c.in-None.ensures)))

pub returns-in-Some : goal.returns-in-Some
returns-in-Some c =
    missing_finds (description_tree c.args.machine.now) c.args.image.now c.in-Some.memory.now c.missing.result (sym (rw c.in-Ok.ensures.items at (rw c.deref.ensures.value at c.in-Some.ensures)))
    (rw (ap (λ (m : Memory). m.name) c.memory.view_is) at c.missing.ensures)
