use Rattle.std.proofs.Common.{ℕ, ◌<◌}
use Rattle.graph_paths.specs.Paths.{Reaches}
use Rattle.graph_paths.proofs.circles.first_among.Given as goal

abbrev pub invariant-loop-node : goal.invariant-loop-node
invariant-loop-node l = (k : ℕ) → k < l.node → Reaches l.next k k → ⊥
