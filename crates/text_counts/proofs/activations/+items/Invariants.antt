-- The count so far and that of the items that are left make that of all.
use Rattle.std.proofs.Common.{◌+◌, ◌*◌, drop}
use Rattle.lisa_tree.specs.Activations.{act_tree, act_trees, act_depth, acts_depth}
use Rattle.least_fixed_points.specs.Settles.{entry}
use Rattle.text_counts.specs.Activations.{items_nodes}
use Rattle.text_counts.proofs.Adding.{Summing}
use Rattle.text_counts.proofs.activations.+items.Given as goal

abbrev pub invariant-items_nodes-loop-item : goal.invariant-items_nodes-loop-item
invariant-items_nodes-loop-item g l =
    let d = g.N.Names.tree l.names in
    Summing l.sum (items_nodes (entry l.table) d l.operation (act_trees (drop l.item-index l.all))) (items_nodes (entry l.table) d l.operation (act_trees l.all))

-- The measure of the calls is the depth of the items.
abbrev pub decreases-item_nodes : goal.decreases-item_nodes
decreases-item_nodes g l = 2 * act_depth (act_tree l.item.now)

abbrev pub decreases-items_nodes : goal.decreases-items_nodes
decreases-items_nodes g l = 2 * acts_depth (act_trees l.all.now) + 1
