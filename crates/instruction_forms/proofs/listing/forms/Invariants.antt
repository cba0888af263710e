use Rattle.std.proofs.Common.{◌≡◌, map, take}
use Rattle.coding_tables.specs.Instructions.{forms_of}
use Rattle.instruction_forms.specs.Trees.{form_tree}
use Rattle.instruction_forms.specs.Described.{instruction_form}
use Rattle.instruction_forms.proofs.listing.forms.Given as goal

abbrev pub invariant-loop-number : goal.invariant-loop-number
invariant-loop-number g l = map form_tree l.all.items ≡ map (instruction_form (g.N.Names.tree l.names)) (take l.number (forms_of (g.N.Names.tree l.names)))
