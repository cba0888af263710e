use Rattle.std.proofs.Common.{◌≡◌, ◌+◌, length}
use Rattle.graph_paths.specs.Paths.{unseen}
use Rattle.graph_paths.specs.Below.{AreBelow}
use Rattle.graph_paths.proofs.peeling.lower_all.Given as goal

abbrev pub invariant-loop-node : goal.invariant-loop-node
invariant-loop-node l = record {
  counts : length l.counts.items ≡ length l.fn.counts.items;
  len : length l.seen.items ≡ length l.fn.seen.items;
  work : AreBelow (length l.seen.items) l.work.items;
  count : unseen l.seen.items + length l.work.items ≡ unseen l.fn.seen.items + length l.fn.work.items;
}
