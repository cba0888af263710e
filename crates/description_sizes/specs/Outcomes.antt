-- What a description unfolds to.
use Rattle.std.specs.Prelude.{ℕ, ◌≡◌, Option, None}
use Rattle.lisa_tree.specs.Descriptions.{DescriptionTree}
use Rattle.activation_trees.specs.Unfolding.{occurrences}
use Rattle.description_sizes.specs.declared.unfolding.Unfolded.{Unfolded}
use Rattle.description_sizes.specs.Sizes.{first_too_many, items}

-- No size exceeds its limit, and these are the occurrences and the items.
pub record IsUnfolded (d : DescriptionTree) (width : Option ℕ) (forms : ℕ) (all : Unfolded) : Type 0 where
  pub fits : first_too_many d width forms ≡ None
  pub all_occurrences : all.occurrences.items ≡ occurrences d
  pub all_items : all.items.items ≡ items d width
