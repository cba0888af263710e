-- Names in the order in which they were put in.
use Rattle.std.specs.Prelude.{ℕ, suc, List, [], ◌∷◌, ◌++◌, Option, Some, None, fold, option_map, if◌then◌else◌}
use Rattle.std.specs.List.{list_any}
use Rattle.std.specs.Str.{bytes_eq}

-- the names, with one more behind them where it is none of them
abbrev pub insert_key : (names : List (List ℕ)) → List ℕ → List (List ℕ)
insert_key names name = if list_any (bytes_eq name) names then names else names ++ name ∷ []

-- the names, with each of these put in one after the other
abbrev pub insert_all : (names more : List (List ℕ)) → List (List ℕ)
insert_all names more = fold insert_key names more

-- the place of a name among others, the first one being 0
abbrev pub place_in : (names : List (List ℕ)) → List ℕ → Option ℕ
place_in [] name = None
place_in (x ∷ rest) name = if bytes_eq name x then Some 0 else option_map suc (place_in rest name)
