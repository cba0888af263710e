use Rattle.std.proofs.Common.{◌≡◌, ◌<◌, ℕ, length}
use Rattle.std.specs.Option.{is_some}
use Rattle.graph_paths.specs.Paths.{saw}
use Rattle.least_fixed_points.specs.Settles.{entry}
use Rattle.meant_declarations.proofs.walking.are_some.Given as goal

abbrev pub invariant-loop-entry : goal.invariant-loop-entry
invariant-loop-entry g l = record {
  count : length l.marked.items ≡ l.entry-index;
  marked : (i : ℕ) → i < l.entry-index → saw l.marked.items i ≡ is_some (entry l.table i);
}
