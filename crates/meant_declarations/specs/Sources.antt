-- How direct meanings are found from which the others are reached.
use Rattle.std.specs.Prelude.{◌≡◌, ◌<◌, ◌⊎◌, ℕ, Bool, true, false, List, [], Option, None, Some, cond, length, IfSome}
use Rattle.lisa_tree.specs.Descriptions.{DescriptionTree}
use Rattle.lisa_tree.specs.Declarations.{declared_at, what_at, is_reference, owner_at, entry_name_at, above}
use Rattle.graph_paths.specs.Paths.{is_in}
use Rattle.meant_declarations.specs.Meanings.{declared_by, direct_meanings}

-- an operation is above another one, and fewer are above it
pub record IsUpper (d : DescriptionTree) (o q : ℕ) : Type 0 where
  pub stands : is_in q (above d o) ≡ true
  pub fewer : length (above d q) < length (above d o)

-- of these nodes all are kept but some that stand in the row; the last one is kept too
pub record AreOuter (row : List ℕ) (last : ℕ) (nodes outer : List ℕ) : Type 0 where
  pub inside : (b : ℕ) → is_in b outer ≡ true → is_in b nodes ≡ true
  pub others : (b : ℕ) → is_in b nodes ≡ true → (is_in b outer ≡ true) ⊎ (is_in b row ≡ true)
  pub kept : is_in last nodes ≡ true → is_in last outer ≡ true

-- one of the operations above another one, and what is left of these without those above that one
pub record IsCover (d : DescriptionTree) (o q : ℕ) (rest : List ℕ) : Type 0 where
  pub upper : IsUpper d o q
  pub outer : AreOuter (above d q) q (above d o) rest

abbrev pub IsCovered : DescriptionTree → ℕ → Option ℕ → List ℕ → Type 0
IsCovered d o cover rest = IfSome cover (λ q. IsCover d o q rest)

abbrev pub reference_at : DescriptionTree → Option ℕ → Bool
reference_at d None = false
reference_at d (Some i) = is_reference (what_at d i)

-- an operation hands a name on
abbrev pub hands_on : DescriptionTree → List ℕ → Option ℕ → Bool
hands_on d n None = false
hands_on d n (Some q) = reference_at d (declared_at d q n)

-- in which operations the name of a reference is looked up
abbrev pub searched : DescriptionTree → ℕ → Option ℕ → List ℕ → List ℕ → List ℕ
searched d o cover rest n = cond (hands_on d n cover) rest (above d o)

abbrev pub found_above : DescriptionTree → ℕ → Option ℕ → List ℕ → Option (List ℕ) → List ℕ
found_above d o cover rest None = []
found_above d o cover rest (Some n) = declared_by d n (searched d o cover rest n)

-- what is found for a declared name
abbrev pub source_row : DescriptionTree → Option ℕ → List ℕ → ℕ → List ℕ
source_row d cover rest i = cond (is_reference (what_at d i)) (found_above d (owner_at d i) cover rest (entry_name_at d i)) []

-- one of the row is a reference of an operation with fewer above it, and means this directly
pub record Through (d : DescriptionTree) (i j : ℕ) (row : List ℕ) : Type 0 where
  pub reference : ℕ
  pub listed : is_in reference row ≡ true
  pub means : is_in j (direct_meanings d reference) ≡ true
  pub fewer : length (above d (owner_at d reference)) < length (above d (owner_at d i))

-- some of what a declared name directly means, and for all else one that stands in for it
pub record AreSome (d : DescriptionTree) (i : ℕ) (row : List ℕ) : Type 0 where
  pub direct : (j : ℕ) → is_in j row ≡ true → is_in j (direct_meanings d i) ≡ true
  pub others : (j : ℕ) → is_in j (direct_meanings d i) ≡ true → (is_in j row ≡ true) ⊎ Through d i j row
