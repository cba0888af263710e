use Rattle.std.proofs.Common.{◌≡◌, ℕ, length, false}
use Rattle.graph_paths.specs.Paths.{is_in, targets}
use Rattle.graph_paths.proofs.reversing.no_edges.Given as goal

abbrev pub invariant-loop-node : goal.invariant-loop-node
invariant-loop-node l = record {
  count : length l.edges.items ≡ l._node;
  none : (x y : ℕ) → is_in y (targets l.edges.items x) ≡ false;
}
