use Rattle.std.proofs.Common.{◌≡◌, ◌<◌, ℕ, take, map, length}
use Rattle.std.specs.Prelude.{slice_index}
use Rattle.lisa_tree.specs.Descriptions.{description_tree, operation_tree}
use Rattle.lisa_tree.specs.Declarations.{entries_from, choices_from}
use Rattle.description_tables.specs.Laws.{chosen}
use Rattle.description_tables.proofs.listing.list.Given as goal

abbrev pub invariant-loop-number : goal.invariant-loop-number
invariant-loop-number l = record {
  entries : l.entries.items ≡ entries_from 0 0 (map operation_tree (take l.number l.operations));
  choices : l.choices.items ≡ map (chosen (description_tree l.globals.description.now)) (choices_from 0 (map operation_tree (take l.number l.operations)));
  count : length l.before.items ≡ l.number;
  before : (o : ℕ) → o < l.number → slice_index l.before.items o ≡ length (entries_from 0 0 (map operation_tree (take o l.operations)));
}
