use Rattle.std.proofs.Common.{ℕ, ◌<◌, ◌≤◌}
use Rattle.graph_paths.specs.Paths.{Leads}
use Rattle.graph_paths.specs.Ranks.{rank}
use Rattle.graph_paths.proofs.ranking.are_ranks.Given as goal

abbrev pub invariant-loop-node : goal.invariant-loop-node
invariant-loop-node l = (a b : ℕ) → a < l.node → Leads l.next a b → rank l.ranks a ≤ rank l.ranks b
