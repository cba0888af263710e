use Rattle.scene_paths.proofs.Moved.{kept_at}
use Rattle.scene_paths.proofs.described.Described.accepted.Goals as goal

pub returns : goal.returns
returns c = let kept = kept_at c.self.inside.tables.tables.globals.description.now c.args.self.now c.self.view_is c.self.invariant in kept.accepted
