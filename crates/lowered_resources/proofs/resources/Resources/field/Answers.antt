use Rattle.std.proofs.Common.{sym}
use Rattle.scene_paths.specs.Lookups.{tree_of}
use Rattle.lowered_resources.proofs.Coded.{field_least, field_most}
use Rattle.lowered_resources.proofs.resources.Resources.field.Goals as goal

pub operand_in-requires-clause-least : goal.operand_in-requires-clause-least
operand_in-requires-clause-least g c = field_least (tree_of c.args.self.now.described.now) c.accepted.ensures c.in-Some-Some.field c.in-Some.shape (sym c.in-Some.ensures)

pub operand_in-requires-clause-most : goal.operand_in-requires-clause-most
operand_in-requires-clause-most g c = field_most (tree_of c.args.self.now.described.now) c.accepted.ensures c.in-Some-Some.field c.in-Some.shape (sym c.in-Some.ensures)
