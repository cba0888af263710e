-- The fields of a tree by their numbers in preorder.
use Rattle.std.specs.Prelude.{ℕ, ◌≡◌, List, slice_set}
use Rattle.instruction_trees.specs.Trees.{Table, Tree, Item, form, placed, slice}
use Rattle.instruction_trees.specs.Values.{values}

-- the lowest bit and the width of each field of a tree, in preorder
abbrev pub places : {V : Type 0} → Table → Tree V → List Item → List (ℕ × ℕ)
places table t items = values (placed table 0 t items)

-- a number has nothing but zeros where the field stands
abbrev pub IsClear : ℕ → ℕ × ℕ → Type 0
IsClear w p = slice w p ≡ 0

-- the second tree is the first one, but that the value of this field is 0
pub record IsEmptied (i : ℕ) (t u : Tree ℕ) : Type 0 where
  pub formed : form u ≡ form t
  pub valued : values u ≡ slice_set (values t) i 0
