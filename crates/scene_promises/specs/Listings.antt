-- What lists an operation.
use Rattle.std.specs.Prelude.{ℕ, ◌≡◌, true, false, Some, slice_get}
use Rattle.lisa_tree.specs.Descriptions.{DescriptionTree}
use Rattle.lisa_tree.specs.Operations.{is_alias}
use Rattle.lisa_tree.specs.Declarations.{Choice, choices, alternatives_at}
use Rattle.graph_paths.specs.Paths.{is_in}

-- an operation that is no alias lists another one in a group, or as an instance
pub record Lists (d : DescriptionTree) (p o : ℕ) : Type 0 where
  pub no_alias : is_alias d p ≡ false
  pub number : ℕ
  pub choice : Choice
  pub is : slice_get (choices d) number ≡ Some choice
  pub owner : choice.operation ≡ p
  pub listed : is_in o (alternatives_at d number) ≡ true
