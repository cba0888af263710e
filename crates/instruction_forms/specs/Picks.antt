-- The children and fields of a form that is known by its number: which alternatives the children are, and which of the alternatives' forms.
use Rattle.std.specs.Prelude.{ℕ, zero, suc, ◌≡◌, ◌<◌, ◌≤◌, ◌+◌, ◌-◌, ◌/◌, ◌%◌, ◌++◌, List, [], ◌∷◌, Option, Some, cond, nat_lt, unwrap_or}
use Rattle.lisa_tree.specs.declared.descriptions.CodingItem.{CodingItem}
use Rattle.lisa_tree.specs.declared.descriptions.CodingItem.TheVariants as items
use Rattle.lisa_tree.specs.Descriptions.{DescriptionTree}
use Rattle.coding_tables.specs.coding_checks.Widths.{item_width}
use Rattle.coding_tables.specs.coded_names.Codings.{pattern_width}
use Rattle.instruction_trees.specs.Trees.{Done, Form}
use Rattle.coding_tables.specs.Codings.{child_alternatives, items_of}
use Rattle.coding_tables.specs.Instructions.{forms_below, below_count, product}
use Rattle.instruction_forms.specs.declared.form.Field.{Field}
use Rattle.instruction_forms.specs.declared.picking.Pick.{Pick}
use Rattle.instruction_forms.specs.declared.picking.Walk.{Walk}
use Rattle.instruction_forms.specs.Trees.{FormTree, FormTrees, End, Then}
use Rattle.instruction_forms.specs.Described.{field, described}

-- the form of a number, where there is one
abbrev pub nth : List Form → ℕ → Form
nth [] number = Done
nth (f ∷ forms) zero = f
nth (f ∷ forms) (suc number) = nth forms number

-- ---- one of some alternatives

abbrev pub pick_at : ℕ → ℕ → ℕ → Pick
pick_at o number low = record { operation = o; number = number; low = low }

-- the form of this number among the forms of some operations, where f tells how many each has
abbrev pub pick : (ℕ → ℕ) → List ℕ → ℕ → ℕ → Pick
pick f [] number low = pick_at 0 0 low
pick f (k ∷ ks) number low = cond (nat_lt number (f k)) (pick_at k number low) (pick f ks (number - f k) low)

abbrev pub told : (ℕ → Option ℕ) → ℕ → ℕ
told table o = unwrap_or (table o) 0

-- ---- the parts of a coding

-- how many bits an item takes
abbrev pub item_span : (ℕ → Option ℕ) → DescriptionTree → ℕ → CodingItem → ℕ
item_span known d o item = unwrap_or (item_width known d o item) 0

abbrev pub span : (ℕ → Option ℕ) → DescriptionTree → ℕ → List CodingItem → ℕ
span known d o [] = 0
span known d o (item ∷ rest) = item_span known d o item + span known d o rest

-- how many forms items have
abbrev pub left : DescriptionTree → ℕ → List CodingItem → ℕ
left d o all = product (below_count d) (items_of d o all)

-- the children of the form of this number, the first one slowest
abbrev pub child_picks : (ℕ → Option ℕ) → DescriptionTree → ℕ → ℕ → List CodingItem → ℕ → List Pick
child_picks known d o low [] number = []
child_picks known d o low (items.Bits pattern ∷ rest) number = child_picks known d o low rest number
child_picks known d o low (items.Field n pattern ∷ rest) number = child_picks known d o low rest number
child_picks known d o low (items.Child n ∷ rest) number =
    pick (below_count d) (child_alternatives d o n) (number / left d o rest) (low + span known d o rest)
    ∷ child_picks known d o low rest (number % left d o rest)

-- the field of an item that ends at this bit from below
abbrev pub item_fields : DescriptionTree → ℕ → CodingItem → ℕ → List Field
item_fields d o (items.Field n pattern) lsb = field d o n (lsb, pattern_width pattern) ∷ []
item_fields d o _ lsb = []

-- the fields, which are the same in all forms
abbrev pub own_fields : (ℕ → Option ℕ) → DescriptionTree → ℕ → ℕ → List CodingItem → List Field
own_fields known d o low [] = []
own_fields known d o low (item ∷ rest) = item_fields d o item (low + span known d o rest) ++ own_fields known d o low rest

abbrev pub picked_form : DescriptionTree → Pick → FormTree
picked_form d p = described d p.low p.operation (nth (forms_below d p.operation) p.number)

abbrev pub picked_forms : DescriptionTree → List Pick → FormTrees
picked_forms d [] = End
picked_forms d (p ∷ picks) = Then (picked_form d p) (picked_forms d picks)

-- ---- on the way

-- the number of a form among those of the items that are left, how many these are, and where the items' bits end
pub record IsWalk (known : ℕ → Option ℕ) (d : DescriptionTree) (o low : ℕ) (all : List CodingItem) (walk : Walk) : Type 0 where
  pub within : walk.number < walk.left
  pub few : walk.left ≤ 1024
  pub is_left : walk.left ≡ left d o all
  pub is_high : walk.high ≡ low + span known d o all
  pub most : walk.high ≤ 64

-- an operation has a form of this number, and with so many bits below it no more than 64
pub record IsPick (known : ℕ → Option ℕ) (d : DescriptionTree) (p : Pick) : Type 0 where
  pub within : p.number < below_count d p.operation
  pub few : below_count d p.operation ≤ 1024
  pub width : ℕ
  pub is : known p.operation ≡ Some width
  pub low : p.low + width ≤ 64
