use Rattle.std.proofs.Common.{◌≡◌, ◌++◌, drop}
use Rattle.activation_trees.specs.Items.{boundary_items}
use Rattle.activation_trees.proofs.listing.add_boundaries.Given as goal

abbrev pub invariant-loop-place : goal.invariant-loop-place
invariant-loop-place l = l.items.items ++ boundary_items l.fields (drop l.place l.stages) ≡ l.fn.items.items ++ boundary_items l.fields l.stages
