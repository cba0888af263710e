-- Forms as their plain trees.
use Rattle.std.proofs.Common.{◌≡◌, ◌<◌, ◌+◌, ℕ, List, length, map, drop, get_or, ap}
use Rattle.instruction_forms.proofs.description_graph_proofs.Lists.{one_more}
use Rattle.instruction_forms.specs.declared.form.Form.{Form, out-Form}
use Rattle.instruction_forms.specs.declared.form.Form.TheFolds.{fold_out-Form}
use Rattle.instruction_forms.specs.Trees.{FormTree, FormTrees, Node, Then, in_turn, layer_tree, form_tree}

-- the trees of forms
abbrev pub trees : List Form → FormTrees
trees forms = in_turn (map form_tree forms)

pub tree_is : (f : Form) → form_tree f ≡ Node (out-Form f).operation (trees (out-Form f).children.items) (out-Form f).fields.items
tree_is = fold_out-Form FormTree layer_tree

pub next_tree : (forms : List Form) (i : ℕ) (form : Form) → i < length forms → form ≡ get_or forms i form → trees (drop i forms) ≡ Then (form_tree form) (trees (drop (i + 1) forms))
next_tree forms i form h is = ap trees (one_more forms i form h is)
