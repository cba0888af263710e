-- Each occurrence is `main`'s, or a child of one before it.
use Rattle.std.specs.Prelude.{ℕ, ◌≡◌, ◌<◌, false, List, Option, None, Some, slice_get}
use Rattle.lisa_tree.specs.Descriptions.{DescriptionTree}
use Rattle.lisa_tree.specs.Operations.{number_of}
use Rattle.stage_checks.specs.Controls.{main_name}
use Rattle.activation_trees.specs.declared.parts.Occurrence.{Occurrence}
use Rattle.activation_trees.specs.Starting.{Activated, activated}
use Rattle.activation_trees.specs.Unfolding.{occurrence, child, occurrences}

-- it is one of what the operation activates
abbrev pub IsActivated : DescriptionTree → ℕ → Activated → Type 0
IsActivated d o a = (i : ℕ) × (slice_get (activated d o) i ≡ Some a)

-- the occurrence of number `k` is a child of that of number `p`, which stands before it
pub record IsChild (d : DescriptionTree) (k : ℕ) (x : Occurrence) (p : ℕ) : Type 0 where
  pub before : p < k
  pub activator : Occurrence
  pub stands : slice_get (occurrences d) p ≡ Some activator
  pub by_item : Activated
  pub is_activated : IsActivated d activator.operation by_item
  pub is : x ≡ child d p activator by_item

-- the occurrence of `main`
pub record IsMain (d : DescriptionTree) (k : ℕ) (x : Occurrence) : Type 0 where
  pub first : k ≡ 0
  pub number : ℕ
  pub named : number_of d main_name ≡ Some number
  pub is : x ≡ occurrence d None None false number

abbrev pub HasActivator : DescriptionTree → ℕ → Occurrence → Option ℕ → Type 0
HasActivator d k x None = IsMain d k x
HasActivator d k x (Some p) = IsChild d k x p
