use Rattle.lisa_tree.specs.Descriptions.{description_tree}
use Rattle.scene_paths.proofs.Widths.{array_shown}
use Rattle.scene_paths.proofs.described.Described.array.Goals as goal

pub returns-in-Resource-clause-width : goal.returns-in-Resource-clause-width
returns-in-Resource-clause-width c = array_shown (description_tree c.args.self.now) c.in-Resource.number c.array_at.result c.array_at.ensures
