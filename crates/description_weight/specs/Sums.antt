-- On the way: sums over forms, some of which are plain.
use Rattle.std.specs.Prelude.{ℕ, ◌+◌, Bool, true, false, List, [], ◌∷◌, cond}
use Rattle.instruction_forms.specs.Trees.{FormTree}
use Rattle.description_weight.specs.Weights.{tree_nodes}

-- the operations of those forms that are plain
abbrev pub nodes_where : List FormTree → List Bool → ℕ
nodes_where (f ∷ forms) (plain ∷ rest) = cond plain (tree_nodes f) 0 + nodes_where forms rest
nodes_where _ _ = 0
