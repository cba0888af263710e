use Rattle.std.proofs.Common.{◌≡◌, ℕ, length, nat_lt, ◌&&◌, not}
use Rattle.std.specs.Option.{is_some}
use Rattle.lisa_tree.specs.Operations.{own_stage}
use Rattle.graph_paths.specs.Paths.{is_in, targets}
use Rattle.stage_checks.proofs.running.inner_edges.Given as goal

abbrev pub invariant-loop-node : goal.invariant-loop-node
invariant-loop-node g l = record {
  len : length l.inner.items ≡ l.node;
  rows : (a b : ℕ) → is_in b (targets l.inner.items a) ≡ (nat_lt a l.node && (is_in b (targets l.next a) && not (is_some (own_stage (g.N.Names.tree l.names) b))));
}
