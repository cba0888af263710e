use Rattle.std.proofs.Common.{sym, ap}
use Rattle.lisa_engine.specs.Memory.{Memory}
use Rattle.lisa_tree.specs.Descriptions.{description_tree}
use Rattle.memory_commands.proofs.Lookups.{arrays_find, missing_find}
use Rattle.memory_commands.proofs.exporting.check_memories.Goals as goal

pub returns-in-None : goal.returns-in-None
returns-in-None c = arrays_find (description_tree c.args.machine.now) c.args.image.now (sym (rw c.arrays.ensures at c.in-None.ensures))

pub returns-in-Some : goal.returns-in-Some
returns-in-Some c =
    missing_find (description_tree c.args.machine.now) c.args.image.now c.in-Some.memory.now c.missing.result (sym (rw c.arrays.ensures at c.in-Some.ensures))
    (rw (ap (λ (m : Memory). m.name) c.memory.view_is) at c.missing.ensures)
