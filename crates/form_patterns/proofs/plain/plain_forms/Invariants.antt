use Rattle.std.proofs.Common.{◌≡◌, map, take}
use Rattle.lisa_tree.specs.Operations.{is_alias}
use Rattle.instruction_forms.specs.Trees.{form_tree, is_plain_tree}
use Rattle.form_patterns.proofs.plain.plain_forms.Given as goal

abbrev pub invariant-loop-form : goal.invariant-loop-form
invariant-loop-form g l = l.all.items ≡ map (λ f. is_plain_tree (is_alias (g.N.Names.tree l.names)) (form_tree f)) (take l.form-index l.forms)
