use Rattle.std.proofs.Common.{◌≡◌, ℕ, length, nat_eq, take}
use Rattle.std.specs.List.{dedup}
use Rattle.graph_paths.specs.Paths.{targets}
use Rattle.lisa_tree.specs.Descriptions.{description_tree}
use Rattle.description_tables.specs.Laws.{above_chosen}
use Rattle.description_tables.proofs.listings.list_above.Given as goal

abbrev pub invariant-loop-choice : goal.invariant-loop-choice
invariant-loop-choice l = record {
  count : length l.rows.items ≡ l.count;
  added : (o : ℕ) → targets l.rows.items o ≡ dedup nat_eq (above_chosen (description_tree l.globals.description.now) o (take l.choice-index l.choices));
}
