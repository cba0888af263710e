use Rattle.std.proofs.Common.{sym}
use Rattle.lisa_tree.specs.Descriptions.{description_tree}
use Rattle.memory_commands.proofs.Lookups.{memory_finds, no_memory_finds}
use Rattle.memory_commands.proofs.Named.{named_fits}
use Rattle.memory_commands.proofs.memories.find_memory.Goals as goal

pub returns-in-Some-clause-finds : goal.returns-in-Some-clause-finds
returns-in-Some-clause-finds c =
    memory_finds (λ memory. memory.now) c.args.format (description_tree c.args.machine.now) c.args.name.now c.in-Some.memory (sym (rw c.as_bytes.ensures.value at c.in-Some.ensures))

pub returns-in-Some-clause-width : goal.returns-in-Some-clause-width
returns-in-Some-clause-width c =
    let d = description_tree c.args.machine.now in
    (named_fits d c.args.name.now c.in-Some.memory.now (c.machines_show.ensures d c.accepted.ensures.accepted) (sym (rw c.as_bytes.ensures.value at c.in-Some.ensures))).0

pub returns-in-None-clause-finds : goal.returns-in-None-clause-finds
returns-in-None-clause-finds c =
    no_memory_finds (λ memory. memory.now) c.args.format (description_tree c.args.machine.now) c.args.name.now c.missing.result (sym (rw c.as_bytes.ensures.value at c.in-None.ensures)) c.missing.ensures
