use Rattle.std.proofs.Common.{◌≡◌, ◌++◌, drop, map, length}
use Rattle.lisa_tree.specs.Descriptions.{description_tree, declare_tree}
use Rattle.lisa_tree.specs.Declarations.{entries_in, choices_in}
use Rattle.description_tables.specs.Laws.{chosen}
use Rattle.description_tables.proofs.listing.add_declares.Given as goal

abbrev pub invariant-loop-declare : goal.invariant-loop-declare
invariant-loop-declare l = record {
  entries : l.entries.items ++ entries_in l.operation (length l.choices.items) (map declare_tree (drop l.declare-index l.declares))
      ≡ l.fn.entries.items ++ entries_in l.operation (length l.fn.choices.items) (map declare_tree l.declares);
  choices : l.choices.items ++ map (chosen (description_tree l.globals.description.now)) (choices_in l.operation (map declare_tree (drop l.declare-index l.declares)))
      ≡ l.fn.choices.items ++ map (chosen (description_tree l.globals.description.now)) (choices_in l.operation (map declare_tree l.declares));
}
