-- Where things stand, in code. On the way to the program: nothing here needs to be trusted.
use Rattle.std.specs.Prelude.{ℕ, ◌≡◌}
use Rattle.lisa_tree.specs.Descriptions.{DescriptionTree}
use Rattle.lowered_words.specs.scene_paths.Lookups.{tree_of}
use Rattle.lowered_layouts.specs.declared.positions.Positions.{Positions}

-- the description
abbrev pub positions_tree : Positions → DescriptionTree
positions_tree positions = tree_of positions.described.now

-- of this description, whose words have this width
pub record ArePositionsOf (d : DescriptionTree) (width : ℕ) (positions : Positions) : Type 0 where
  pub tree : positions_tree positions ≡ d
  pub wide : positions.width ≡ width
