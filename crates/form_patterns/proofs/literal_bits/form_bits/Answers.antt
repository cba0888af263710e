use Rattle.std.proofs.Common.{refl}
use Rattle.instruction_forms.specs.Trees.{form_tree}
use Rattle.form_patterns.specs.Frames.{tree_frame}
use Rattle.form_patterns.proofs.Standing.{stands_alone}
use Rattle.form_patterns.proofs.literal_bits.form_bits.Goals as goal

pub returns : goal.returns
returns g c = stands_alone (record { mask = 0; pattern = 0 }) c.add_form.new.bits (tree_frame (g.N.Names.tree c.args.names.now) (form_tree c.args.form.now)) refl refl c.add_form.ensures
