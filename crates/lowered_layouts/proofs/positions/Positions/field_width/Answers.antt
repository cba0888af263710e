use Rattle.std.proofs.Common.{sym}
use Rattle.lowered_words.specs.scene_paths.Lookups.{tree_of}
use Rattle.lowered_resources.proofs.Standing.{shape_sized}
use Rattle.lowered_layouts.proofs.positions.Positions.field_width.Goals as goal

pub returns-in-Some-clause-at_least_one : goal.returns-in-Some-clause-at_least_one
returns-in-Some-clause-at_least_one c = (shape_sized (tree_of c.args.self.now.described.now) c.accepted.ensures c.args.field c.in-Some.shape (sym c.in-Some.ensures)).0

pub returns-in-Some-clause-at_most_64 : goal.returns-in-Some-clause-at_most_64
returns-in-Some-clause-at_most_64 c = (shape_sized (tree_of c.args.self.now.described.now) c.accepted.ensures c.args.field c.in-Some.shape (sym c.in-Some.ensures)).1
