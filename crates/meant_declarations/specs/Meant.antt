-- Which declarations a declared name may mean.
use Rattle.std.specs.Prelude.{◌≡◌, ℕ, Bool, true, false, List, Option, None, Some, slice_get}
use Rattle.lisa_tree.specs.Descriptions.{DescriptionTree}
use Rattle.lisa_tree.specs.declared.declared.What.TheVariants as whats
use Rattle.lisa_tree.specs.Declarations.{Entry, entries, declared_at, above}
use Rattle.lisa_tree.specs.Paths.{refers}
use Rattle.graph_paths.specs.Paths.{is_in, saw}

-- A declared name may mean itself where it is no reference. A reference may mean what an operation above its own declares by its name, and
-- where that is a reference too, what it may mean.
pub data MayMean (d : DescriptionTree) : ℕ → ℕ → Type 0 where
  itself : {i j : ℕ} (e : Entry) → slice_get (entries d) i ≡ Some e → refers e.what ≡ false → i ≡ j → MayMean d i j
  higher : {i j : ℕ} (e : Entry) (p k : ℕ) → slice_get (entries d) i ≡ Some e → e.what ≡ whats.Reference → is_in p (above d e.operation) ≡ true → declared_at d p e.name ≡ Some k
      → MayMean d k j → MayMean d i j

-- it holds of some declaration that the name may mean
abbrev pub SomeMeant : DescriptionTree → (ℕ → Type 0) → ℕ → Type 0
SomeMeant d P i = (j : ℕ) × (MayMean d i j × P j)

-- a marked declaration that the name may mean, or none where there is none
abbrev pub IsFound : DescriptionTree → List Bool → ℕ → Option ℕ → Type 0
IsFound d marked i (Some j) = MayMean d i j × (saw marked j ≡ true)
IsFound d marked i None = SomeMeant d (λ j. saw marked j ≡ true) i → ⊥

-- two declarations that the name may mean have values that aren't the same
pub record Differ {T : Type 0} (d : DescriptionTree) (same : T → T → Bool) (value : ℕ → Option T) (i : ℕ) : Type 0 where
  pub left : ℕ
  pub right : ℕ
  pub means_left : MayMean d i left
  pub means_right : MayMean d i right
  pub left_value : T
  pub right_value : T
  pub is_left : value left ≡ Some left_value
  pub is_right : value right ≡ Some right_value
  pub other : same left_value right_value ≡ false
