use Rattle.scene_paths.specs.Lookups.{tree_of}
use Rattle.lowered_resources.proofs.Coded.{array_least, array_most, array_low}
use Rattle.lowered_resources.proofs.resources.ResourcesNames.element.Goals as goal

pub cells_of-requires-clause-least : goal.cells_of-requires-clause-least
cells_of-requires-clause-least g c =
    array_least (tree_of c.args.self.now.described.now) c.accepted.ensures c.args.self.now.operation c.args.name.now c.array.result c.in-Some.array c.array.ensures.array c.in-Some.is

pub cells_of-requires-clause-most : goal.cells_of-requires-clause-most
cells_of-requires-clause-most g c =
    array_most (tree_of c.args.self.now.described.now) c.accepted.ensures c.args.self.now.operation c.args.name.now c.array.result c.in-Some.array c.array.ensures.array c.in-Some.is

pub cells_of-requires-clause-low : goal.cells_of-requires-clause-low
cells_of-requires-clause-low g c =
    array_low (tree_of c.args.self.now.described.now) c.accepted.ensures c.args.self.now.operation c.args.name.now c.array.result c.in-Some.array c.args.self.now.few c.array.ensures.array c.in-Some.is
