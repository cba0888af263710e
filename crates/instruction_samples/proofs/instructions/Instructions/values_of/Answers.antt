use Rattle.std.proofs.Common.{arith}
use Rattle.lisa_tree.specs.Descriptions.{description_tree}
use Rattle.instruction_samples.proofs.instructions.Instructions.values_of.Goals as goal

pub field-requires : goal.field-requires
field-requires c =
    record { field = (description_tree c.args.self.now.machine, c.requires.coding, c.requires.count c.loop-field.field (omega (arith, c.loop-field-test.true))) }
