use Rattle.std.proofs.Common.{length}
use Rattle.graph_paths.specs.Below.{AreBelow}
use Rattle.graph_paths.proofs.ordering.add_unseen.Given as goal

abbrev pub invariant-loop-node : goal.invariant-loop-node
invariant-loop-node l = AreBelow (length l.seen) l.all.items
