use Rattle.std.proofs.Common.{◌≡◌, ◌++◌, drop}
use Rattle.activation_trees.specs.Items.{bits_from}
use Rattle.activation_trees.proofs.listing.add_bits.Given as goal

abbrev pub invariant-loop-number : goal.invariant-loop-number
invariant-loop-number g l =
    l.items.items ++ bits_from (g.N.Names.tree l.names) l.stage l.place l.number (drop l.number l.occurrences)
    ≡ l.fn.items.items ++ bits_from (g.N.Names.tree l.names) l.stage l.place 0 l.occurrences
