use Rattle.std.proofs.Common.{sym}
use Rattle.scene_paths.specs.Lookups.{tree_of}
use Rattle.behavior_runs.proofs.Reading.{field_least, field_most}
use Rattle.behavior_runs.proofs.view.View.field.Goals as goal

pub shaped-requires-clause-least : goal.shaped-requires-clause-least
shaped-requires-clause-least c = field_least (tree_of c.described-described.result.now) c.accepted.ensures c.in-Some-Some.field c.in-Some.shape (sym c.in-Some.ensures)

pub shaped-requires-clause-most : goal.shaped-requires-clause-most
shaped-requires-clause-most c = field_most (tree_of c.described-described.result.now) c.accepted.ensures c.in-Some-Some.field c.in-Some.shape (sym c.in-Some.ensures)
