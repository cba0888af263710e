use Rattle.lisa_tree.specs.Descriptions.{description_tree}
use Rattle.assembler_commands.specs.ObjectViews.{trees_of}
use Rattle.assembler_commands.proofs.Linked.{linked_finds, unlinked_finds}
use Rattle.assembler_commands.proofs.linking.image_of.Goals as goal

pub returns-in-Ok-link-clause-finds : goal.returns-in-Ok-link-clause-finds
returns-in-Ok-link-clause-finds c =
    linked_finds (description_tree c.args.machine.now) (trees_of c.args.objects.now) c.in-Ok-link.image (rw c.in-Ok.ensures.items at (rw c.deref.ensures.value at c.in-Ok-link.ensures.image))
    (rw c.in-Ok.ensures.items at (rw c.deref.ensures.value at c.in-Ok-link.ensures.whole))

pub returns-clause-finds : goal.returns-clause-finds
returns-clause-finds c =
    rw c.unlinked.ensures (unlinked_finds (description_tree c.args.machine.now) (trees_of c.args.objects.now) c.in-Err-link.fault
    (rw c.in-Ok.ensures.items at (rw c.deref.ensures.value at c.in-Err-link.ensures.fault)))
