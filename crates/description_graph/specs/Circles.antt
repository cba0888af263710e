-- Operations that lead back to themselves.
use Rattle.std.specs.Prelude.{ℕ, ◌≡◌, ◌<◌, true, Option, None, Some, length}
use Rattle.lisa_tree.specs.Descriptions.{DescriptionTree}
use Rattle.lisa_tree.specs.Paths.{Node, Operation, leads}

-- a path of one edge or more
pub data Reaches (d : DescriptionTree) : Node → Node → Type 0 where
  edge : {a b : Node} → leads d a b ≡ true → Reaches d a b
  more : {a b c : Node} → Reaches d a b → leads d b c ≡ true → Reaches d a c

-- the first operation that reaches itself, or none
abbrev pub IsFirstCircularOperation : DescriptionTree → Option ℕ → Type 0
IsFirstCircularOperation d None = (o : ℕ) → Reaches d (Operation o) (Operation o) → ⊥
IsFirstCircularOperation d (Some o) = (o < length d.operations) × Reaches d (Operation o) (Operation o) × ((p : ℕ) → p < o → Reaches d (Operation p) (Operation p) → ⊥)
