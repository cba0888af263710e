-- Forms as their plain trees.
use Rattle.std.proofs.Common.{◌≡◌, map}
use Rattle.instruction_forms.specs.declared.form.Form.{Form}
use Rattle.instruction_forms.specs.declared.form.Form.TheOpen.{Form-F}
use Rattle.instruction_forms.specs.declared.form.Form.TheViews.{roll-Form}
use Rattle.instruction_forms.specs.declared.form.Form.TheFolds.{fold-roll-Form}
use Rattle.instruction_forms.specs.Trees.{FormTree, Node, in_turn, layer_tree, form_tree}

pub tree_of_parts : (x : Form-F Form) → form_tree (roll-Form x) ≡ Node x.operation (in_turn (map form_tree x.children.items)) x.fields.items
tree_of_parts = fold-roll-Form FormTree layer_tree
