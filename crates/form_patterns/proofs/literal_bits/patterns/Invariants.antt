use Rattle.std.proofs.Common.{map, take}
use Rattle.instruction_forms.specs.Trees.{form_tree}
use Rattle.form_patterns.specs.Frames.{tree_frame}
use Rattle.form_patterns.proofs.Standing.{StandForAll}
use Rattle.form_patterns.proofs.literal_bits.patterns.Given as goal

abbrev pub invariant-loop-form : goal.invariant-loop-form
invariant-loop-form g l = StandForAll (map (λ f. tree_frame (g.N.Names.tree l.names) (form_tree f)) (take l.form-index l.forms)) l.all.items
