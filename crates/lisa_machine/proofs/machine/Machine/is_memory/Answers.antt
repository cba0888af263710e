use Rattle.std.proofs.Common.{◌∙◌, ◌<◌, ap, false, length, arith}
use Rattle.lisa_tree.specs.declared.descriptions.Description.{Description}
use Rattle.lisa_tree.specs.Descriptions.{description_tree}
use Rattle.machine_parts.specs.Parts.{arrays_of, memories_of}
use Rattle.machine_parts.proofs.Lengths.{arrays_told}
use Rattle.lisa_machine.proofs.Shown.{in_range, read_at}
use Rattle.lisa_machine.proofs.machine.Machine.is_memory.Goals as goal

pub index-requires : goal.index-requires
index-requires c =
    let d = description_tree c.args.self.now in
    let is = c.self.invariant.1.of_memories ∙ ap (λ (e : Description). memories_of (description_tree e)) c.self.view_is in
    let below : c.args.array < length c.self.inside.parts.memories.items = in_range c.self.inside.parts.memories.items (memories_of d) (arrays_of d) c.args.array is (arrays_told d) c.requires in
    omega (arith, below, c.self.inside.parts.memories.ok)

pub returns : goal.returns
returns c =
    let d = description_tree c.args.self.now in
    let is = c.self.invariant.1.of_memories ∙ ap (λ (e : Description). memories_of (description_tree e)) c.self.view_is in
    read_at c.self.inside.parts.memories.items (memories_of d) c.args.array c.index.result.now false is (in_range c.self.inside.parts.memories.items (memories_of d) (arrays_of d) c.args.array is (arrays_told d) c.requires) c.index.ensures
