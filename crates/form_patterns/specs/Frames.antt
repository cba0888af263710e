-- The frames of forms that are plain trees.
use Rattle.std.specs.Prelude.{◌≤◌, ◌+◌, ℕ, Bool, true, false, List, [], ◌∷◌, ◌++◌, Option, Some, None, cond, map, nat_eq, length, replicate}
use Rattle.lisa_tree.specs.declared.descriptions.Pattern.{Pattern}
use Rattle.lisa_tree.specs.Descriptions.{DescriptionTree}
use Rattle.instruction_trees.specs.Bits.{Frame}
use Rattle.instruction_trees.specs.Trees.{Item, Fixed, Free, Field, Child, coding}
use Rattle.instruction_forms.specs.coding_tables.Codings.{pattern_digits, coding_table}
use Rattle.instruction_forms.specs.Trees.{FormTree, FormTrees, Node, End, Then}
use Rattle.pattern_tables.specs.declared.bit_pattern.BitPattern.{BitPattern}
use Rattle.pattern_tables.specs.Patterns.{Stands}

-- `0` and `1` are literal bits, `x` is a free one
abbrev pub digit_bit : ℕ → Option Bool
digit_bit digit = cond (nat_eq digit 48) (Some false) (cond (nat_eq digit 49) (Some true) None)

abbrev pub pattern_frame : Pattern → Frame
pattern_frame pattern = map digit_bit (pattern_digits pattern)

-- the bits of items whose children have these frames
abbrev pub items_frame : List Item → List Frame → Frame
items_frame [] frames = []
items_frame (Fixed b ∷ items) frames = Some b ∷ items_frame items frames
items_frame (Free ∷ items) frames = None ∷ items_frame items frames
items_frame (Field n ∷ items) frames = replicate n None ++ items_frame items frames
items_frame (Child ks ∷ items) [] = items_frame items []
items_frame (Child ks ∷ items) (fs ∷ frames) = fs ++ items_frame items frames

abbrev mutual
  -- the bits of a form, where fields are free
  pub tree_frame : DescriptionTree → FormTree → Frame
  tree_frame d (Node operation children fields) = items_frame (coding (coding_table d) operation) (trees_frames d children)

  pub trees_frames : DescriptionTree → FormTrees → List Frame
  trees_frames d End = []
  trees_frames d (Then f rest) = tree_frame d f ∷ trees_frames d rest

-- the second has the bits of the first with those of the frame below them, as long as they are no more than 64
pub record Adds (p : BitPattern) (fs : Frame) (q : BitPattern) : Type 0 where
  pub stands : (gs : Frame) → length gs + length fs ≤ 64 → Stands (length gs) gs p → Stands (length (gs ++ fs)) (gs ++ fs) q

-- it stands for a frame of no more than 64 bits
abbrev pub StandsFor : Frame → BitPattern → Type 0
StandsFor fs p = length fs ≤ 64 → Stands (length fs) fs p
