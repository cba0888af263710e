use Rattle.std.proofs.Common.{◌≡◌, ◌++◌, map, drop}
use Rattle.lisa_tree.specs.Operations.{name_at}
use Rattle.instruction_forms.specs.Trees.{in_turn, form_tree}
use Rattle.instruction_forms.specs.Naming.{form_text}
use Rattle.instruction_forms.proofs.Commas.{left}
use Rattle.instruction_forms.proofs.naming.+write_form.Given as goal

abbrev pub invariant-loop-child : goal.invariant-loop-child
invariant-loop-child g l = let names = name_at (g.N.Names.tree l.names) in l.text.items ++ left names l.opened (in_turn (map form_tree (drop l.child-index l.child-items))) ≡ l.fn.text.items ++ form_text names (form_tree l.form)
