-- Forms as plain trees.
use Rattle.std.specs.Prelude.{ℕ, Bool, true, ◌&&◌, not, List, [], ◌∷◌}
use Rattle.instruction_forms.specs.declared.form.Field.{Field}
use Rattle.instruction_forms.specs.declared.form.Form.{Form}
use Rattle.instruction_forms.specs.declared.form.Form.TheOpen.{Form-F}
use Rattle.instruction_forms.specs.declared.form.Form.TheFolds.{fold-Form}

mutual
  -- an operation, the forms of its children, and its own fields
  pub data FormTree : Type 0 where
    Node : ℕ → FormTrees → List Field → FormTree

  pub data FormTrees : Type 0 where
    End : FormTrees
    Then : FormTree → FormTrees → FormTrees

abbrev pub in_turn : List FormTree → FormTrees
in_turn [] = End
in_turn (f ∷ rest) = Then f (in_turn rest)

abbrev pub layer_tree : Form-F FormTree → FormTree
layer_tree f = Node f.operation (in_turn f.children.items) f.fields.items

-- the plain tree that a form stands for
abbrev pub form_tree : Form → FormTree
form_tree = fold-Form FormTree layer_tree

abbrev mutual
  -- no operation in it is an alias
  pub is_plain_tree : (ℕ → Bool) → FormTree → Bool
  is_plain_tree aliases (Node operation children fields) = not (aliases operation) && are_plain aliases children

  pub are_plain : (ℕ → Bool) → FormTrees → Bool
  are_plain aliases End = true
  are_plain aliases (Then f rest) = is_plain_tree aliases f && are_plain aliases rest
