use Rattle.std.proofs.Common.{arith}
use Rattle.graph_paths.proofs.Seen.{in_at}
use Rattle.meant_declarations.proofs.walking.Walk.come_to_all.Goals as goal

pub come-requires : goal.come-requires
come-requires c = rw c.loop-node.invariant.count (c.requires _ (in_at c.args.nodes.now c.loop-node.node-index (omega arith)))
