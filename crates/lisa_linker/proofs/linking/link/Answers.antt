use Rattle.std.proofs.Common.{◌≡◌, None, map, sym, subst, ◌∙◌}
use Rattle.lisa_engine.specs.Images.{IsImage}
use Rattle.lisa_object.specs.Objects.{object_tree}
use Rattle.object_links.specs.LinkFaults.{fault_before_values}
use Rattle.object_links.specs.LineNames.{parts_of}
use Rattle.lisa_linker.specs.Tables.{cells_of}
use Rattle.lisa_linker.proofs.Linked.{linked_rules, filled_image}
use Rattle.lisa_linker.proofs.linking.link.Goals as goal

pub returns-clause-rules : goal.returns-clause-rules
returns-clause-rules c =
    let parts = parts_of (map object_tree c.args.objects.now) in
    let none : fault_before_values c.args.memories.now parts ≡ None = cc (c.in-Ok.ensures, c.in_default-before.is) in
    let image = c.in-Ok-filled_memories.ensures ∙ filled_image c.args.memories.now parts (cells_of c.in_ok-cells.cells) c.in_ok-cells.ensures.added in
    subst IsImage (sym image) (linked_rules c.args.memories.now c.args.objects.now c.requires.objects c.requires.memories none)
