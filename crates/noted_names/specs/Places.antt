-- The places that names are noted with.
use Rattle.std.specs.Prelude.{ℕ, ◌≡◌, List, Option, Some, IsSome}
use Rattle.std.specs.Option.{option_and_then}
use Rattle.std.specs.BTreeMap.{BTreeMap}
use Rattle.name_tables.specs.TableViews.{value_of}
use Rattle.noted_names.specs.declared.places.Places.{Places}
use Rattle.noted_names.specs.declared.memo.Memo.{Memo}

-- the first place of a name
abbrev pub place_of : Memo → List ℕ → Option ℕ
place_of memo n = option_and_then (λ found. found.first) (value_of memo.table n)

-- each name that is noted has a first place
abbrev pub HavePlaces : BTreeMap (List ℕ) Places → Type 0
HavePlaces table = (n : List ℕ) (found : Places) → value_of table n ≡ Some found → IsSome found.first
