use Rattle.std.proofs.Common.{◌≡◌, ◌↔◌, List, Bool, true, sym, subst}
use Rattle.graph_paths.specs.Paths.{saw}
use Rattle.least_fixed_points.specs.Settles.{entry}
use Rattle.meant_declarations.specs.Meant.{SomeMeant}
use Rattle.description_types.specs.Tables.{AreMeant, MayNotAssign}
use Rattle.description_types.proofs.MeantMarks.{meant_from}
use Rattle.description_types.proofs.KnownMarks.{settled_so}
use Rattle.description_types.proofs.kinds.unassignable.Goals as goal

pub returns : goal.returns
returns g c =
    settled_so (g.N.Names.tree c.args.names.now) (SomeMeant (g.N.Names.tree c.args.names.now) (MayNotAssign (g.N.Names.tree c.args.names.now) (entry c.args.assignables.now))) (entry c.args.assignables.now)
    (saw c.deref.result.now) (saw c.in_ok-marks.marks.items)
    (λ i x. meant_from (g.N.Names.tree c.args.names.now) x.1.0)
    (subst (λ (m : List Bool). AreMeant (g.N.Names.tree c.args.names.now) (MayNotAssign (g.N.Names.tree c.args.names.now) (entry c.args.assignables.now)) (saw m)) (sym c.deref.ensures.value) c.in_ok-marked.ensures)
    c.in_ok-marks.ensures.within c.in_ok-marks.ensures.marked
