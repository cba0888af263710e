use Rattle.std.proofs.Common.{◌≡◌, ℕ, length, take, ◌||◌, ◌&&◌, nat_eq}
use Rattle.graph_paths.specs.Paths.{is_in, targets}
use Rattle.graph_paths.proofs.reversing.add_row.Given as goal

abbrev pub invariant-loop-node : goal.invariant-loop-node
invariant-loop-node l = record {
  count : length l.edges.items ≡ length l.fn.edges.items;
  added : (x y : ℕ) → is_in y (targets l.edges.items x) ≡ (is_in y (targets l.fn.edges.items x) || (is_in x (take l.node-index l.nodes) && nat_eq y l.from));
}
