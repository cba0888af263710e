-- The locals that are in scope.
use Rattle.std.specs.Prelude.{ℕ, List, [], ◌∷◌, ◌++◌, Option, None, Some, cond}
use Rattle.std.specs.Option.{is_some}
use Rattle.lisa_tree.specs.Same.{same_name}
use Rattle.description_places.specs.declared.scopes.Local.{Local}

-- the locals in scope by their names, the first one that was declared first
abbrev pub Scope : Type 0
Scope = List (List ℕ × Local)

-- what a name stands for among the locals
abbrev pub local_named : List ℕ → Scope → Option Local
local_named n [] = None
local_named n (entry ∷ rest) = cond (same_name n entry.0) (Some entry.1) (local_named n rest)

-- a further local; one of a name that is taken, which no accepted description has, leaves the scope as it is
abbrev pub entered : Scope → List ℕ → Local → Scope
entered scope n local = cond (is_some (local_named n scope)) scope (scope ++ (n, local) ∷ [])
