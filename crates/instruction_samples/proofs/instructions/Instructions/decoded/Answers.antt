use Rattle.lisa_tree.specs.Descriptions.{description_tree}
use Rattle.instruction_samples.proofs.instructions.Instructions.decoded.Goals as goal

pub values_of-requires-clause-count : goal.values_of-requires-clause-count
values_of-requires-clause-count c i = (c.field_count-count.ensures (description_tree c.args.self.now.machine) c.requires i).0
