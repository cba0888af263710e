use Rattle.graph_paths.specs.Paths.{saw}
use Rattle.least_fixed_points.specs.Settles.{entry}
use Rattle.description_types.proofs.KnownMarks.{unassignable_so}
use Rattle.description_types.proofs.kinds.not_assignable.Goals as goal

pub returns : goal.returns
returns g c = unassignable_so (g.N.Names.tree c.args.names.now) (saw c.in_ok-marks.marks.items) (entry c.args.assignables.now) c.in_ok-marks.ensures
