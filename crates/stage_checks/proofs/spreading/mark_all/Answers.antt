use Rattle.std.proofs.Common.{arith}
use Rattle.graph_paths.proofs.Seen.{in_at}
use Rattle.stage_checks.proofs.spreading.mark_all.Goals as goal

pub mark-requires : goal.mark-requires
mark-requires c = rw c.loop-node.invariant.len (c.requires _ (in_at c.args.nodes.now c.loop-node.node-index (omega arith)))
