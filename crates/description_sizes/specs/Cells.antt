-- The cells of arrays.
use Rattle.std.specs.Prelude.{ℕ, Some, sum_by}
use Rattle.lisa_tree.specs.Descriptions as trees
use Rattle.lisa_tree.specs.Descriptions.{ResourceTree, DescriptionTree}

-- the cells of a register array or a memory
abbrev pub depth_in : ResourceTree → ℕ
depth_in (trees.Register word shape name (Some depth)) = depth
depth_in (trees.Memory word shape name depth) = depth
depth_in r = 0

-- the cells of all arrays
abbrev pub cell_count : DescriptionTree → ℕ
cell_count d = sum_by depth_in d.resources
