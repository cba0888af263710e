use Rattle.std.proofs.Common.{◌≡◌, ℕ, [], length, map}
use Rattle.std.specs.Rc.{rc_value}
use Rattle.graph_paths.specs.Paths.{targets}
use Rattle.text_counts.proofs.references.no_lists.Given as goal

abbrev pub invariant-loop-number : goal.invariant-loop-number
invariant-loop-number l = record {
  count : length l.lists.items ≡ l._number;
  none : (i : ℕ) → targets (map rc_value l.lists.items) i ≡ [];
}
