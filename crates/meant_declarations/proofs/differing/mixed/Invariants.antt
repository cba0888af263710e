use Rattle.std.proofs.Common.{◌≡◌, ◌<◌, ℕ, length}
use Rattle.std.specs.List.{list_any}
use Rattle.graph_paths.specs.Paths.{saw, targets}
use Rattle.least_fixed_points.specs.Settles.{entry}
use Rattle.meant_declarations.specs.Walks.{are_other}
use Rattle.meant_declarations.proofs.differing.mixed.Given as goal

abbrev pub invariant-loop-node : goal.invariant-loop-node
invariant-loop-node g l = record {
  count : length l.marked.items ≡ l.node;
  marked : (i : ℕ) → i < l.node → saw l.marked.items i ≡ list_any (λ (k : ℕ). are_other g.T.PartialEq.eq (entry l.values i) (entry l.values k)) (targets l.next i);
}
