use Rattle.std.proofs.Common.{◌≡◌, ◌++◌, drop, map}
use Rattle.activation_trees.specs.Starting.{activated_by}
use Rattle.activation_trees.specs.Unfolding.{child}
use Rattle.activation_trees.proofs.unfolding.children.Given as goal

abbrev pub invariant-loop-start : goal.invariant-loop-start
invariant-loop-start g l =
    l.below.items ++ map (child (g.N.Names.tree l.names) l.number l.above) (activated_by (g.N.Names.tree l.names) (drop l.start-index l.starts))
    ≡ map (child (g.N.Names.tree l.names) l.number l.above) (activated_by (g.N.Names.tree l.names) l.starts)
