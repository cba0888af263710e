-- Words of trees and of forms.
use Rattle.std.specs.Prelude.{◌≡◌, ℕ, List}
use Rattle.instruction_trees.specs.Bits.{Has, pattern}
use Rattle.instruction_trees.specs.Trees.{Table, Tree, Item, Form, Fits, IsBelow, bits, form}

-- the word of a tree: zeros at free bits
abbrev pub word_of : Table → Tree ℕ → List Item → ℕ
word_of table t items = pattern (bits table t items)

-- some tree of the form has the word
pub record IsWordOf (table : Table) (items : List Item) (f : Form) (w : ℕ) : Type 0 where
  pub tree : Tree ℕ
  pub fits : Fits IsBelow table tree items
  pub formed : form tree ≡ f
  pub has : Has w (bits table tree items)

-- some tree of each has one word, whether it is an alias or not
pub record Overlap (table : Table) (items : List Item) (f g : Form) : Type 0 where
  pub word : ℕ
  pub first : IsWordOf table items f word
  pub second : IsWordOf table items g word
