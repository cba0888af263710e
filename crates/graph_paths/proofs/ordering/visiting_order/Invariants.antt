use Rattle.std.proofs.Common.{◌≡◌, ◌+◌, length}
use Rattle.graph_paths.specs.Paths.{unseen}
use Rattle.graph_paths.specs.Below.{AreBelow}
use Rattle.graph_paths.proofs.ordering.visiting_order.Given as goal

abbrev pub invariant-going : goal.invariant-going
invariant-going l = record {
  len : length l.seen.items ≡ length l.next;
  counts : length l.counts.items ≡ length l.next;
  work : AreBelow (length l.next) l.work.items;
  all : AreBelow (length l.next) l.all.items;
}

abbrev pub decreases-going : goal.decreases-going
decreases-going l = unseen l.seen.items + length l.work.items
