-- The children of a tree, each with its own parts, and where they stand in a word.
use Rattle.std.specs.Prelude.{ℕ, ◌≡◌, List, [], ◌∷◌, Some, slice_get}
use Rattle.instruction_trees.specs.Trees.{Table, Tree, Done, Pass, Value, Choose, Fits, IsBelow, coding, form, placed, tree_at}

-- the operations that a tree chooses, in coding order, each with its own parts
abbrev pub own_children : {V : Type 0} → Tree V → List (ℕ × Tree V)
own_children Done = []
own_children (Pass t) = own_children t
own_children (Value v t) = own_children t
own_children (Choose k own t) = (k, own) ∷ own_children t

-- the parts of an operation that stand in a word, with so many bits of it below them
pub record IsRead (table : Table) (word o low : ℕ) (t : Tree ℕ) : Type 0 where
  pub fits : Fits IsBelow table t (coding table o)
  pub read : t ≡ tree_at table word low (form t) (coding table o)

-- The child at a place of an operation's parts is read from the word too: it stands at the same place among its form's fields.
pub record IsReadChild (table : Table) (word o low i k : ℕ) (t own : Tree ℕ) : Type 0 where
  pub below : ℕ
  pub is_read : IsRead table word k below own
  pub placed_at : slice_get (own_children (placed table low (form t) (coding table o))) i ≡ Some (k, placed table below (form own) (coding table k))
