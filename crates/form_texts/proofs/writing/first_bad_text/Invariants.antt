use Rattle.std.proofs.Common.{◌≡◌, map, drop}
use Rattle.instruction_forms.specs.Trees.{form_tree}
use Rattle.form_texts.proofs.Numbered.{first_bad}
use Rattle.form_texts.proofs.writing.first_bad_text.Given as goal

abbrev pub invariant-loop-number : goal.invariant-loop-number
invariant-loop-number g l = first_bad (g.N.Names.tree l.names) l.number (map form_tree (drop l.number l.forms)) ≡ first_bad (g.N.Names.tree l.names) 0 (map form_tree l.forms)
