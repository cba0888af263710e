use Rattle.std.proofs.Common.{◌≡◌, ℕ, length, ◌&&◌, nat_lt}
use Rattle.graph_paths.specs.Paths.{is_in, targets}
use Rattle.graph_paths.proofs.reversing.reversed.Given as goal

abbrev pub invariant-loop-node : goal.invariant-loop-node
invariant-loop-node l = record {
  count : length l.back.items ≡ length l.next;
  so_far : (x y : ℕ) → is_in y (targets l.back.items x) ≡ (nat_lt y l.node && is_in x (targets l.next y));
}
