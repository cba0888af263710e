use Rattle.std.proofs.Common.{◌≡◌, ◌++◌, drop, map}
use Rattle.activation_trees.specs.Starting.{activation}
use Rattle.activation_trees.specs.Unfolding.{child}
use Rattle.activation_trees.proofs.unfolding.add_alternatives.Given as goal

abbrev pub invariant-loop-operation : goal.invariant-loop-operation
invariant-loop-operation g l =
    l.below.items ++ map (child (g.N.Names.tree l.names) l.number l.above) (map (activation l.by_root) (drop l.operation-index l.operations))
    ≡ l.fn.below.items ++ map (child (g.N.Names.tree l.names) l.number l.above) (map (activation l.by_root) l.operations)
