use Rattle.std.proofs.Common.{◌≡◌, ◌++◌, drop, map, length}
use Rattle.lisa_tree.specs.Descriptions.{description_tree}
use Rattle.lisa_tree.specs.Declarations.{instances}
use Rattle.description_tables.specs.Laws.{chosen}
use Rattle.description_tables.proofs.Entries.{one_of}
use Rattle.description_tables.proofs.listing.add_instances.Given as goal

abbrev pub invariant-loop-pair : goal.invariant-loop-pair
invariant-loop-pair l = record {
  entries : l.entries.items ++ instances l.operation (length l.choices.items) (drop l.pair-index l.pairs) ≡ l.fn.entries.items ++ instances l.operation (length l.fn.choices.items) l.pairs;
  choices : l.choices.items ++ map (chosen (description_tree l.globals.description.now)) (map (one_of l.operation) (drop l.pair-index l.pairs))
      ≡ l.fn.choices.items ++ map (chosen (description_tree l.globals.description.now)) (map (one_of l.operation) l.pairs);
}
