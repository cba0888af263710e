-- The state of a machine after an edge: the values of its items, and the cells of its arrays.
use Rattle.std.specs.Prelude.{ℕ, List, [], slice_index_or}

pub record State : Type 0 where
  pub items : List ℕ
  pub cells : List (List ℕ)

-- the cells of one array
abbrev pub cells_of : State → ℕ → List ℕ
cells_of state array = slice_index_or state.cells array []
