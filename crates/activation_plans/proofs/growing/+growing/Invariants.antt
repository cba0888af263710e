use Rattle.std.proofs.Common.{◌≡◌, ◌+◌, ◌*◌, drop, map}
use Rattle.lisa_tree.specs.Activations.{act_tree, act_trees}
use Rattle.lisa_meaning.specs.activation_trees.Starting.{activation}
use Rattle.pipeline_time.specs.Acts.{size}
use Rattle.pipeline_runs.specs.Runs.{acts_of}
use Rattle.lisa_meaning.specs.Trees.{followed, items_acts, items_tests, row}
use Rattle.activation_plans.specs.Growing.{activator}
use Rattle.activation_plans.proofs.Sized.{item_size, items_size, room}
use Rattle.activation_plans.proofs.growing.+growing.Given as goal

abbrev pub invariant-grow_row-each : goal.invariant-grow_row-each
invariant-grow_row-each g l = record {
  left : followed (acts_of l.tree) (row (activator (g.N.Names.tree l.names) l.above) l.next (map (activation l.by_root) (drop l.operation-index l.operations)))
      ≡ row (activator (g.N.Names.tree l.names) l.above) l.from (map (activation l.by_root) l.operations);
  next : l.next ≡ l.from + size (acts_of l.tree);
}

abbrev pub invariant-grow_items-each : goal.invariant-grow_items-each
invariant-grow_items-each g l = record {
  left : followed (acts_of l.tree) (items_acts (activator (g.N.Names.tree l.names) l.above) l.next l.last (act_trees (drop l.act-index l.acts)))
      ≡ items_acts (activator (g.N.Names.tree l.names) l.above) l.from l.test (act_trees l.acts);
  next : l.next ≡ l.from + size (acts_of l.tree);
  last : l.last + items_tests (act_trees (drop l.act-index l.acts)) ≡ l.test + items_tests (act_trees l.acts);
}

abbrev pub decreases-grow_row : goal.decreases-grow_row
decreases-grow_row g l = l.above.levels * room (g.N.Names.tree l.names.now) + 1

abbrev pub decreases-grow_item : goal.decreases-grow_item
decreases-grow_item g l = l.above.levels * room (g.N.Names.tree l.names.now) + 1 + item_size (act_tree l.act.now)

abbrev pub decreases-grow_items : goal.decreases-grow_items
decreases-grow_items g l = l.above.levels * room (g.N.Names.tree l.names.now) + 1 + items_size (act_trees l.acts.now)

abbrev pub decreases-grow_below : goal.decreases-grow_below
decreases-grow_below g l = l.levels * room (g.N.Names.tree l.names.now)
