-- Which operations a form chooses. The forms of an operation's children stand in the order of its CODING.
use Rattle.std.specs.Prelude.{ℕ, zero, suc, ◌≡◌, true, false, List, [], ◌∷◌, ◌++◌, Option, None, Some, position}
use Rattle.std.specs.Option.{option_to_list}
use Rattle.lisa_tree.specs.declared.descriptions.CodingItem.{CodingItem}
use Rattle.lisa_tree.specs.declared.descriptions.CodingItem.TheVariants as items
use Rattle.lisa_tree.specs.Descriptions.{DescriptionTree}
use Rattle.lisa_tree.specs.Same.{same_name}
use Rattle.form_patterns.specs.coding_tables.Instructions.{forms_of}
use Rattle.pattern_tables.specs.Instructions.{form_at}
use Rattle.form_patterns.specs.instruction_forms.Trees.{FormTree, FormTrees, Node, End, Then}
use Rattle.form_patterns.specs.instruction_forms.Described.{items_at, instruction_form}
use Rattle.description_sizes.specs.activation_trees.declared.parts.Occurrence.{Occurrence}
use Rattle.description_sizes.specs.activation_trees.Places.{IsBelow, IsBelowBy}

-- ---- the children of a form

abbrev pub child_name : CodingItem → Option (List ℕ)
child_name (items.Child n) = Some n
child_name item = None

abbrev pub child_names : List CodingItem → List (List ℕ)
child_names [] = []
child_names (item ∷ rest) = option_to_list (child_name item) ++ child_names rest

-- the place of a name among the children of an operation's CODING
abbrev pub child_place : DescriptionTree → ℕ → List ℕ → Option ℕ
child_place d o n = position (same_name n) (child_names (items_at d o))

abbrev pub tree_at : FormTrees → ℕ → Option FormTree
tree_at End i = None
tree_at (Then f rest) zero = Some f
tree_at (Then f rest) (suc i) = tree_at rest i

-- the form of the child at a place
abbrev pub child_at : FormTree → ℕ → Option FormTree
child_at (Node o children fields) i = tree_at children i

abbrev pub operation_of : FormTree → ℕ
operation_of (Node o children fields) = o

-- the form of a number, as a plain tree
abbrev pub numbered_form : DescriptionTree → ℕ → FormTree
numbered_form d number = instruction_form d (form_at (forms_of d) number)

-- ---- the occurrences that a form chooses

-- A form chooses the occurrence of this number, which stands at this part of the form, or at none.
pub data Stands (d : DescriptionTree) (f : FormTree) : ℕ → Option FormTree → Type 0 where
  -- The root activates the form's operation: it stands at the whole form.
  whole : {k p : ℕ} {x a : Occurrence} → IsBelow d k x p a → a.past_root ≡ false → x.past_root ≡ true → x.operation ≡ operation_of f → Stands d f k (Some f)
  -- A child of a part's CODING is activated, with the operation that the form has in its place: it stands there.
  child : {n : List ℕ} {k p i : ℕ} {x a : Occurrence} {part below : FormTree} → IsBelowBy d n k x p a → Stands d f p (Some part)
      → child_place d a.operation n ≡ Some i → child_at part i ≡ Some below → x.operation ≡ operation_of below → Stands d f k (Some below)
  -- A part activates what is no child of its CODING: whatever that is, it stands at no part.
  other : {n : List ℕ} {k p : ℕ} {x a : Occurrence} {part : FormTree} → IsBelowBy d n k x p a → Stands d f p (Some part) → child_place d a.operation n ≡ None → Stands d f k None
  -- And so does all below.
  further : {n : List ℕ} {k p : ℕ} {x a : Occurrence} → IsBelowBy d n k x p a → Stands d f p None → Stands d f k None

abbrev pub Chooses : DescriptionTree → FormTree → ℕ → Type 0
Chooses d f k = (part : Option FormTree) × Stands d f k part
