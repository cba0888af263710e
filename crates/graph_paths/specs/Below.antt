-- Nodes of a graph of so many.
use Rattle.std.specs.Prelude.{ℕ, ◌≡◌, ◌<◌, List, true}
use Rattle.graph_paths.specs.Paths.{is_in}

abbrev pub AreBelow : ℕ → List ℕ → Type 0
AreBelow count nodes = (b : ℕ) → is_in b nodes ≡ true → b < count
