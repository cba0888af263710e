use Rattle.std.proofs.Common.{refl}
use Rattle.lisa_tree.specs.Descriptions.{description_tree}
use Rattle.item_promises.proofs.machine_parts_proofs.Lengths.{arrays_told}
use Rattle.memory_commands.proofs.memories.memory_named.Goals as goal

pub loop-place-init : goal.loop-place-init
loop-place-init c = (refl, arrays_told (description_tree c.args.machine.now))
