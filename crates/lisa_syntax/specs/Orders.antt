-- The orders in which texts have the fields of forms.
use Rattle.std.specs.Prelude.{◌≡◌, ◌<◌, ℕ, suc, List, [], ◌∷◌, length, Some, slice_get, slice_index_or}
use Rattle.instruction_texts.specs.declared.shapes.Shape.{Shape}
use Rattle.instruction_texts.specs.declared.shapes.Shape.TheVariants.{Other, Literal, Unsigned, Signed}
use Rattle.text_tables.specs.Shared.{shapes_at}

-- how many numbers a text has
abbrev pub number_count : List Shape → ℕ
number_count [] = 0
number_count (Other c ∷ ss) = number_count ss
number_count (Literal p ∷ ss) = number_count ss
number_count (Unsigned hex p n ∷ ss) = suc (number_count ss)
number_count (Signed p n ∷ ss) = suc (number_count ss)

-- the field is none of these
abbrev pub IsNowhere : List ℕ → ℕ → Type 0
IsNowhere order i = (k : ℕ) → slice_get order k ≡ Some i → ⊥

-- the numbers from 0 on, each once
pub record IsOrder (order : List ℕ) : Type 0 where
  pub inside : (k i : ℕ) → slice_get order k ≡ Some i → i < length order
  pub all : (i : ℕ) → i < length order → IsNowhere order i → ⊥
  pub once : (j k i : ℕ) → slice_get order j ≡ Some i → slice_get order k ≡ Some i → j ≡ k

-- each number of these pieces is a field's, and each field is one of them
pub record IsOrderOf (ss : List Shape) (order : List ℕ) : Type 0 where
  pub is_order : IsOrder order
  pub counted : number_count ss ≡ length order

-- the order of the form of a number
abbrev pub order_at : List (List ℕ) → ℕ → List ℕ
order_at orders k = slice_index_or orders k []

abbrev pub AreOrdersOf : List (List Shape) → List (List ℕ) → Type 0
AreOrdersOf texts orders = (k : ℕ) → k < length texts → IsOrderOf (shapes_at texts k) (order_at orders k)

-- of things in preorder and the same in the order of the text: what stands at a place of the text is that of the field that stands there
pub record IsInOrder {A : Type 0} (order : List ℕ) (all shown : List A) : Type 0 where
  pub long : length all ≡ length order
  pub placed : (k i : ℕ) → slice_get order k ≡ Some i → slice_get all i ≡ slice_get shown k
