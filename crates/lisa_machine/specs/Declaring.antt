-- What operations declare, as look-ups by name find it.
use Rattle.std.specs.Prelude.{◌≡◌, ◌⊎◌, ℕ, List, [], ◌∷◌, Some, slice_get}
use Rattle.lisa_tree.specs.Descriptions.{DescriptionTree}
use Rattle.lisa_tree.specs.declared.declared.What.{What}
use Rattle.lisa_tree.specs.declared.declared.What.TheVariants as whats
use Rattle.lisa_tree.specs.Operations.{number_of}
use Rattle.lisa_tree.specs.Declarations.{Entry, Choice, choice, declared_at, what_at}

-- what a declared name chooses among is there and belongs to the same operation; an instance has one alternative
abbrev pub Chooses : List Choice → Entry → What → Type 0
Chooses cs e (whats.Group c) = (x : Choice) × (slice_get cs c ≡ Some x) × (x.operation ≡ e.operation)
Chooses cs e (whats.Instance c) = (n : List ℕ) × (slice_get cs c ≡ Some (choice e.operation (n ∷ [])))
Chooses cs e whats.Label = Unit {0}
Chooses cs e whats.Reference = Unit {0}

-- the operation declares the name as this
pub record IsDeclared (d : DescriptionTree) (o : ℕ) (n : List ℕ) (what : What) : Type 0 where
  pub number : ℕ
  pub declared : declared_at d o n ≡ Some number
  pub is : what_at d number ≡ Some what

abbrev pub IsLabel : DescriptionTree → ℕ → List ℕ → Type 0
IsLabel d o n = IsDeclared d o n whats.Label

-- a group, of this choice
abbrev pub IsGroupOf : DescriptionTree → ℕ → List ℕ → ℕ → Type 0
IsGroupOf d o n c = IsDeclared d o n (whats.Group c)

abbrev pub IsGroup : DescriptionTree → ℕ → List ℕ → Type 0
IsGroup d o n = (c : ℕ) × IsGroupOf d o n c

-- a group or an instance, of this choice
abbrev pub IsChildOf : DescriptionTree → ℕ → List ℕ → ℕ → Type 0
IsChildOf d o n c = IsDeclared d o n (whats.Group c) ⊎ IsDeclared d o n (whats.Instance c)

abbrev pub IsChild : DescriptionTree → ℕ → List ℕ → Type 0
IsChild d o n = (c : ℕ) × IsChildOf d o n c

-- an operation has this name
abbrev pub IsOperation : DescriptionTree → List ℕ → Type 0
IsOperation d n = (o : ℕ) × (number_of d n ≡ Some o)
