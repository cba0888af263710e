use Rattle.std.proofs.Common.{◌≡◌, ◌++◌, drop, map}
use Rattle.activation_trees.specs.Items.{field_item}
use Rattle.activation_trees.proofs.listing.add_fields.Given as goal

abbrev pub invariant-loop-field : goal.invariant-loop-field
invariant-loop-field l = l.items.items ++ map (field_item l.before l.after) (drop l.field-index l.fields) ≡ l.fn.items.items ++ map (field_item l.before l.after) l.fields
