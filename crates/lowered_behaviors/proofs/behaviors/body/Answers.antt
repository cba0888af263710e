use Rattle.std.proofs.Common.{sym}
use Rattle.scene_paths.specs.Lookups.{tree_of}
use Rattle.lowered_behaviors.proofs.Bodies.{body_depth}
use Rattle.lowered_behaviors.proofs.behaviors.body.Goals as goal

pub returns-in-Some-clause-shallow : goal.returns-in-Some-clause-shallow
returns-in-Some-clause-shallow c = body_depth (tree_of c.args.described.now) c.running.result _ (sym c.in-Some.ensures)
