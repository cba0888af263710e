-- The instructions of a description, and their forms.
use Rattle.std.specs.Prelude.{ℕ, zero, suc, ◌+◌, ◌*◌, ◌≡◌, ◌<◌, List, [], ◌∷◌, Option, None, Some, option_map, length}
use Rattle.std.specs.Option.{option_or}
use Rattle.lisa_tree.specs.Descriptions as trees
use Rattle.lisa_tree.specs.Descriptions.{CodingTree, DescriptionTree}
use Rattle.lisa_tree.specs.Operations.{coding_in, sections_at}
use Rattle.lisa_tree.specs.Declarations.{choices, alternatives_at}
use Rattle.lisa_tree.specs.Paths.{node_count, choice_node}
use Rattle.instruction_trees.specs.Trees.{Item, Fixed, Free, Field, Child, Form, coding, instructions}
use Rattle.instruction_trees.specs.Forms.{forms}
use Rattle.coding_checks.specs.Widths.{choice_named, capped}
use Rattle.coding_tables.specs.Codings.{choice_alternatives, coding_table}

-- ---- the root

-- an operation that has a root, and the name of the root's group
pub record Root : Type 0 where
  pub operation : ℕ
  pub group : List ℕ

abbrev pub root : ℕ → List ℕ → Root
root o n = record { operation = o; group = n }

abbrev pub root_group : Option CodingTree → Option (List ℕ)
root_group (Some (trees.Root place group)) = Some group
root_group _ = None

abbrev pub root_at : DescriptionTree → ℕ → Option Root
root_at d o = option_map (root o) (root_group (coding_in (sections_at d o)))

abbrev pub root_from : DescriptionTree → ℕ → ℕ → Option Root
root_from d o zero = None
root_from d o (suc more) = option_or (root_at d o) (root_from d (o + 1) more)

-- the root of the first operation that has one
abbrev pub first_root : DescriptionTree → Option Root
first_root d = root_from d 0 (length d.operations)

abbrev pub choice_of_root : DescriptionTree → Option Root → Option ℕ
choice_of_root d None = None
choice_of_root d (Some r) = choice_named d r.operation r.group

-- the group of all instructions, by its number among the choices; none without a root
abbrev pub instruction_choice : DescriptionTree → Option ℕ
instruction_choice d = choice_of_root d (first_root d)

-- an instruction is one of the group's alternatives
abbrev pub instruction_items : DescriptionTree → List Item
instruction_items d = instructions (choice_alternatives d (instruction_choice d))

-- ---- forms

-- the forms of an operation's coding; where no operation reaches itself, no tree is deeper
abbrev pub forms_below : DescriptionTree → ℕ → List Form
forms_below d o = forms (node_count d) (coding_table d) (coding (coding_table d) o)

-- the forms of all instructions in order: alternatives as they are listed, the first child slowest
abbrev pub forms_of : DescriptionTree → List Form
forms_of d = forms (suc (node_count d)) (coding_table d) (instruction_items d)

abbrev pub form_count : DescriptionTree → ℕ
form_count d = length (forms_of d)

-- ---- a table of counts

abbrev pub below_count : DescriptionTree → ℕ → ℕ
below_count d o = length (forms_below d o)

abbrev pub total : (ℕ → ℕ) → List ℕ → ℕ
total f [] = 0
total f (x ∷ xs) = f x + total f xs

-- the product of what children have
abbrev pub product : (ℕ → ℕ) → List Item → ℕ
product f [] = 1
product f (Fixed b ∷ items) = product f items
product f (Free ∷ items) = product f items
product f (Field n ∷ items) = product f items
product f (Child ks ∷ items) = total f ks * product f items

-- how many forms each operation has, and each choice among operations, as far as it can be told
pub record AreFormCounts (d : DescriptionTree) (table : ℕ → Option ℕ) : Type 0 where
  pub operations : (o : ℕ) → o < length d.operations → table o ≡ Some (capped (below_count d o))
  pub choosing : (c : ℕ) → c < length (choices d) → table (choice_node d c) ≡ Some (capped (total (below_count d) (alternatives_at d c)))
