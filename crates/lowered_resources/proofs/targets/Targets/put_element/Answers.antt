use Rattle.scene_paths.specs.Lookups.{tree_of}
use Rattle.lowered_resources.proofs.Coded.{array_least, array_most}
use Rattle.lowered_resources.proofs.targets.Targets.put_element.Goals as goal

pub put_cell-requires-clause-least : goal.put_cell-requires-clause-least
put_cell-requires-clause-least g c =
    array_least (tree_of c.args.self.now.described.now) c.accepted.ensures c.args.self.now.operation c.args.name.now c.array.result c.in-Some.array c.array.ensures.array c.in-Some.is

pub put_cell-requires-clause-most : goal.put_cell-requires-clause-most
put_cell-requires-clause-most g c =
    array_most (tree_of c.args.self.now.described.now) c.accepted.ensures c.args.self.now.operation c.args.name.now c.array.result c.in-Some.array c.array.ensures.array c.in-Some.is
