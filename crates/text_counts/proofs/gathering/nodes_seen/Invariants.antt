use Rattle.std.proofs.Common.{◌≡◌, ◌&&◌, ℕ, nat_lt}
use Rattle.graph_paths.specs.Paths.{is_in, saw}
use Rattle.text_counts.proofs.gathering.nodes_seen.Given as goal

abbrev pub invariant-loop-node : goal.invariant-loop-node
invariant-loop-node l = (b : ℕ) → is_in b l.nodes.items ≡ (nat_lt b l.node && saw l.seen b)
