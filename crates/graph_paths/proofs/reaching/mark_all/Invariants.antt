use Rattle.std.proofs.Common.{◌≡◌, ℕ, ◌+◌, length, take, ◌||◌, ◌&&◌, not}
use Rattle.graph_paths.specs.Paths.{is_in, saw, unseen}
use Rattle.graph_paths.proofs.reaching.mark_all.Given as goal

abbrev pub invariant-loop-node : goal.invariant-loop-node
invariant-loop-node l = record {
  len : length l.seen.items ≡ length l.fn.seen.items;
  seen : (b : ℕ) → saw l.seen.items b ≡ (saw l.fn.seen.items b || is_in b (take l.node-index l.nodes));
  work : (b : ℕ) → is_in b l.work.items ≡ (is_in b l.fn.work.items || (is_in b (take l.node-index l.nodes) && not (saw l.fn.seen.items b)));
  count : unseen l.seen.items + length l.work.items ≡ unseen l.fn.seen.items + length l.fn.work.items;
}
