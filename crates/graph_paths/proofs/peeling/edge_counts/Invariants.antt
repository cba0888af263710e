use Rattle.std.proofs.Common.{◌≡◌, length}
use Rattle.graph_paths.proofs.peeling.edge_counts.Given as goal

abbrev pub invariant-loop-nodes : goal.invariant-loop-nodes
invariant-loop-nodes l = length l.counts.items ≡ l.nodes-index
