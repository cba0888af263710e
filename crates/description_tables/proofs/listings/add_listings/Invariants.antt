use Rattle.std.proofs.Common.{◌≡◌, ℕ, length, take}
use Rattle.graph_paths.specs.Paths.{targets}
use Rattle.lisa_tree.specs.Declarations.{listings}
use Rattle.description_tables.specs.Laws.{Joins}
use Rattle.description_tables.proofs.listings.add_listings.Given as goal

abbrev pub invariant-loop-number : goal.invariant-loop-number
invariant-loop-number l = record {
  count : length l.rows.items ≡ length l.fn.rows.items;
  added : (o : ℕ) → Joins (targets l.fn.rows.items o) (targets l.rows.items o) (listings l.owner o (take l.number-index l.numbers));
}
