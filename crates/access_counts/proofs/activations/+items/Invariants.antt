-- With the items that are left all are noted.
use Rattle.std.proofs.Common.{◌+◌, ◌*◌, drop}
use Rattle.lisa_tree.specs.Activations.{act_tree, act_trees, act_depth, acts_depth}
use Rattle.access_counts.specs.Accesses.{items_accesses}
use Rattle.access_counts.specs.Ledgers.{IsGoing}
use Rattle.access_counts.proofs.activations.+items.Given as goal

abbrev pub invariant-note_activation-loop-item : goal.invariant-note_activation-loop-item
invariant-note_activation-loop-item g l =
    IsGoing (g.N.Names.tree l.names) l.operation l.fn.ledger l.ledger l.times
    (λ a names. items_accesses a names (act_trees (drop l.item-index l.all))) (λ a names. items_accesses a names (act_trees l.all))

-- The measure of the calls is the depth of the items.
abbrev pub decreases-note_item : goal.decreases-note_item
decreases-note_item g l = 2 * act_depth (act_tree l.item.now)

abbrev pub decreases-note_activation : goal.decreases-note_activation
decreases-note_activation g l = 2 * acts_depth (act_trees l.all.now) + 1
