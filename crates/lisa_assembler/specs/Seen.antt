-- Names that were seen before.
use Rattle.std.specs.Prelude.{ℕ, List, [], ◌∷◌}

-- those that were seen behind these names
abbrev pub seen_behind : (seen names : List (List ℕ)) → List (List ℕ)
seen_behind seen [] = seen
seen_behind seen (n ∷ ns) = seen_behind (n ∷ seen) ns
