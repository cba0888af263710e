use Rattle.std.proofs.Common.{◌≡◌, ℕ, [], length}
use Rattle.graph_paths.specs.Paths.{targets}
use Rattle.description_tables.proofs.listings.no_rows.Given as goal

abbrev pub invariant-loop-number : goal.invariant-loop-number
invariant-loop-number l = record {
  count : length l.rows.items ≡ l._number;
  none : (o : ℕ) → targets l.rows.items o ≡ [];
}
