-- Ranks of nodes that no edge lowers.
use Rattle.std.specs.Prelude.{ℕ, ◌≤◌, List, slice_index}
use Rattle.std.specs.Global.{Vec}
use Rattle.graph_paths.specs.Paths.{Leads}

-- a node without a rank has the lowest
abbrev pub rank : List ℕ → ℕ → ℕ
rank ranks a = slice_index ranks a

abbrev pub AreRanks : List (Vec ℕ) → List ℕ → Type 0
AreRanks next ranks = (a b : ℕ) → Leads next a b → rank ranks a ≤ rank ranks b
