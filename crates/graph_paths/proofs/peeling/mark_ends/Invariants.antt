use Rattle.std.proofs.Common.{◌≡◌, length}
use Rattle.graph_paths.specs.Below.{AreBelow}
use Rattle.graph_paths.proofs.peeling.mark_ends.Given as goal

abbrev pub invariant-loop-node : goal.invariant-loop-node
invariant-loop-node l = record {
  len : length l.seen.items ≡ length l.fn.seen.items;
  work : AreBelow (length l.seen.items) l.work.items;
}
