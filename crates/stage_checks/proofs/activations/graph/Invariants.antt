use Rattle.std.proofs.Common.{◌≡◌, ℕ, [], length, cond, nat_lt}
use Rattle.graph_paths.specs.Paths.{targets}
use Rattle.stage_checks.specs.Graphs.{row_at}
use Rattle.stage_checks.proofs.activations.graph.Given as goal

abbrev pub invariant-loop-node : goal.invariant-loop-node
invariant-loop-node g l = record {
  len : length l.next.items ≡ l.node;
  rows : (a : ℕ) → targets l.next.items a ≡ cond (nat_lt a l.node) (row_at (g.N.Names.tree l.names) a) [];
}
