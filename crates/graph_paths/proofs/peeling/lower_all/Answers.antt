use Rattle.std.proofs.Common.{arith}
use Rattle.graph_paths.proofs.Seen.{in_at}
use Rattle.graph_paths.proofs.peeling.lower_all.Goals as goal

pub lower-requires-clause-node : goal.lower-requires-clause-node
lower-requires-clause-node c = rw c.loop-node.invariant.len (c.requires.nodes _ (in_at c.args.nodes.now c.loop-node.node-index (omega arith)))
