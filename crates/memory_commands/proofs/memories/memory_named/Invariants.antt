use Rattle.std.proofs.Common.{◌≡◌, length}
use Rattle.lisa_tree.specs.Descriptions.{description_tree}
use Rattle.item_promises.specs.machine_parts.Parts.{arrays_of, memories_of}
use Rattle.memory_commands.specs.DescriptionMemories.{memory_named}
use Rattle.memory_commands.proofs.Named.{named_from}
use Rattle.memory_commands.proofs.memories.memory_named.Given as goal

abbrev pub invariant-loop-place : goal.invariant-loop-place
invariant-loop-place l =
    let d = description_tree l.machine in (named_from d l.name l.place ≡ memory_named d l.name) × (length (memories_of d) ≡ length (arrays_of d))
