-- Places that are assigned to, as plain trees.
use Rattle.std.specs.Prelude.{ℕ}
use Rattle.lisa_tree.specs.declared.tokens.Shape.{Shape}
use Rattle.behavior_plans.specs.Terms.{TermTree, term_tree}
use Rattle.behavior_plans.specs.declared.spots.Spot.{Spot}
use Rattle.behavior_plans.specs.declared.spots.Spot.TheVariants as spots

pub data SpotTree : Type 0 where
  Register : ℕ → SpotTree
  -- by its slot
  Local : ℕ → SpotTree
  -- of this type: the array, its last index, and the index
  Element : Shape → ℕ → ℕ → TermTree → SpotTree
  -- of this type: a field of a boundary, by its place among those of all boundaries
  Output : Shape → ℕ → SpotTree

-- the plain tree that a spot stands for
abbrev pub spot_tree : Spot → SpotTree
spot_tree (spots.Register place) = Register place
spot_tree (spots.Local slot) = Local slot
spot_tree (spots.Element shape array last index) = Element shape array last (term_tree index)
spot_tree (spots.Output shape place) = Output shape place
