use Rattle.std.proofs.Common.{◌≡◌, ℕ, [], length, cond, nat_lt}
use Rattle.graph_paths.specs.Paths.{targets}
use Rattle.text_counts.specs.Gathering.{late_row}
use Rattle.text_counts.proofs.gathering.late_edges.Given as goal

abbrev pub invariant-loop-node : goal.invariant-loop-node
invariant-loop-node l = record {
  len : length l.edges.items ≡ l.node;
  rows : (a : ℕ) → targets l.edges.items a ≡ cond (nat_lt a l.node) (late_row l.base l.next a) [];
}
