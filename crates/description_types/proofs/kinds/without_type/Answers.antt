use Rattle.graph_paths.specs.Paths.{saw}
use Rattle.least_fixed_points.specs.Settles.{entry}
use Rattle.description_types.proofs.KnownMarks.{typeless_so}
use Rattle.description_types.proofs.kinds.without_type.Goals as goal

pub returns : goal.returns
returns g c = typeless_so (g.N.Names.tree c.args.names.now) (saw c.in_ok-marks.marks.items) (entry c.args.types.now) c.in_ok-marks.ensures
