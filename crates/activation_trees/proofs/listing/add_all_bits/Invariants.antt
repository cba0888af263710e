use Rattle.std.proofs.Common.{◌≡◌, ◌++◌, drop}
use Rattle.activation_trees.specs.Items.{bit_items}
use Rattle.activation_trees.proofs.listing.add_all_bits.Given as goal

abbrev pub invariant-loop-place : goal.invariant-loop-place
invariant-loop-place g l =
    l.items.items ++ bit_items (g.N.Names.tree l.names) l.occurrences l.place (drop l.place l.stages)
    ≡ l.fn.items.items ++ bit_items (g.N.Names.tree l.names) l.occurrences 0 l.stages
