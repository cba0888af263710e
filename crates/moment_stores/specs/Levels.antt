-- Levels of stages, each noted once.
use Rattle.std.specs.Prelude.{ℕ, ◌≡◌, ◌+◌, ◌≤◌, Bool, false, List, length, slice_index_or}
use Rattle.graph_paths.specs.Paths.{is_in}
use Rattle.moment_stores.specs.Rows.{unmarked}

-- each level that is noted has its mark, and there is room for those without one
pub record AreNoted (levels : List ℕ) (marks : List Bool) (room : ℕ) : Type 0 where
  pub marked : (level : ℕ) → slice_index_or marks level false ≡ is_in level levels
  pub left : length levels + unmarked marks ≤ room
  pub most : length marks ≤ room
