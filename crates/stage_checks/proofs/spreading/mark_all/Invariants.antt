use Rattle.std.proofs.Common.{◌≡◌, ℕ, ◌+◌, length, take, ◌||◌, ◌&&◌, not}
use Rattle.std.specs.Option.{is_some}
use Rattle.graph_paths.specs.Paths.{is_in}
use Rattle.stage_checks.specs.Spreading.{entry, given, unset}
use Rattle.stage_checks.proofs.spreading.mark_all.Given as goal

abbrev pub invariant-loop-node : goal.invariant-loop-node
invariant-loop-node l = record {
  len : length l.table.items ≡ length l.fn.table.items;
  table : (b : ℕ) → entry l.table.items b ≡ given (entry l.fn.table.items b) (is_in b (take l.node-index l.nodes)) l.rank;
  work : (b : ℕ) → is_in b l.work.items ≡ (is_in b l.fn.work.items || (is_in b (take l.node-index l.nodes) && not (is_some (entry l.fn.table.items b))));
  count : unset l.table.items + length l.work.items ≡ unset l.fn.table.items + length l.fn.work.items;
}
