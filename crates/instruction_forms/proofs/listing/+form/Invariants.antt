use Rattle.std.proofs.Common.{◌≡◌, map, take}
use Rattle.instruction_forms.specs.Trees.{form_tree}
use Rattle.instruction_forms.specs.Picks.{picked_form}
use Rattle.instruction_forms.proofs.listing.+form.Given as goal

abbrev pub decreases-form : goal.decreases-form
decreases-form g l = l.levels

abbrev pub invariant-loop-child : goal.invariant-loop-child
invariant-loop-child g l = map form_tree l.children.items ≡ map (picked_form (g.N.Names.tree l.sources.names.now)) (take l.child-index l.child-items)
