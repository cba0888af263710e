-- The first of a list.
use Rattle.std.specs.Prelude.{ℕ, List, [], ◌∷◌, Option, Some, None, if◌then◌else◌}
use Rattle.std.specs.List.{list_any}
use Rattle.std.specs.Option.{option_or}
use Rattle.std.specs.Str.{bytes_eq}

-- the first thing that `f` gives of an element
abbrev pub first_of : {A B : Type 0} → (A → Option B) → List A → Option B
first_of f [] = None
first_of f (x ∷ xs) = option_or (f x) (first_of f xs)

-- the first name that stands before it in the list, or among those that were seen
abbrev pub first_double : (seen names : List (List ℕ)) → Option (List ℕ)
first_double seen [] = None
first_double seen (n ∷ ns) = if list_any (bytes_eq n) seen then Some n else first_double (n ∷ seen) ns
