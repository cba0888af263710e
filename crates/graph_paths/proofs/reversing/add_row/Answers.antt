use Rattle.std.proofs.Common.{arith}
use Rattle.graph_paths.proofs.Seen.{in_at}
use Rattle.graph_paths.proofs.reversing.add_row.Goals as goal

pub add_edge-requires : goal.add_edge-requires
add_edge-requires c = rw c.loop-node.invariant.count (c.requires _ (in_at c.args.nodes.now c.loop-node.node-index (omega arith)))
