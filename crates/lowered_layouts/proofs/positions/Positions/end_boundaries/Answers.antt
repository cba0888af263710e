use Rattle.std.proofs.Common.{◌+◌, refl}
use Rattle.lowered_layouts.specs.Code.{positions_tree}
use Rattle.lowered_layouts.proofs.Ended.{boundary_on}
use Rattle.lowered_layouts.proofs.positions.Positions.end_boundaries.Goals as goal

pub loop-boundary-preserved : goal.loop-boundary-preserved
loop-boundary-preserved c =
    boundary_on (positions_tree c.args.self.now) c.loop-boundary.boundary (c.loop-boundary.boundary + 1) c.args.draft.now c.loop-boundary.draft c.end_boundary.new.draft refl c.loop-boundary.invariant c.in_ok-end_boundary.ensures
