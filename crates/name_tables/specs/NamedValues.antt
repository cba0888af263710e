-- Names with values, in the order in which they were put in.
use Rattle.std.specs.Prelude.{ℕ, ◌≡◌, List, [], ◌∷◌, Option, Some, if◌then◌else◌}
use Rattle.std.specs.Str.{bytes_eq}
use Rattle.std.specs.Map.{keys_of}
use Rattle.name_tables.specs.Keys.{place_in}

-- a name with its value: one that is there keeps its place, and a new one goes last
abbrev pub with_value : {V : Type 0} → List (List ℕ × V) → List ℕ → V → List (List ℕ × V)
with_value [] n v = (n, v) ∷ []
with_value (e ∷ es) n v = if bytes_eq n e.0 then (e.0, v) ∷ es else e ∷ with_value es n v

-- where each name that is there stands
abbrev pub Finds : {V : Type 0} → (List ℕ → Option ℕ) → List (List ℕ × V) → Type 0
Finds places es = (n : List ℕ) (k : ℕ) → place_in (keys_of es) n ≡ Some k → places n ≡ Some k
