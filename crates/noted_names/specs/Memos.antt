-- Names that are noted with their places.
use Rattle.std.specs.Prelude.{ℕ, ◌≡◌, List, Option, Some, None, IsSome, IfSome, All, if◌then◌else◌}
use Rattle.std.specs.Option.{option_or}
use Rattle.std.specs.Str.{bytes_eq}
use Rattle.std.specs.BTreeMap.{BTreeMap}
use Rattle.name_tables.specs.TableViews.{value_of}
use Rattle.noted_names.specs.declared.places.Places.{Places}
use Rattle.noted_names.specs.declared.entry.Entry.{Entry}

abbrev pub places : Option ℕ → Option ℕ → Places
places first second = record { first = first; second = second }

-- each slot that has a name has the places that the name has
abbrev pub Remembers : (List ℕ → Option Places) → List (Option Entry) → Type 0
Remembers f slots = All (λ slot. (entry : Entry) → slot ≡ Some entry → f entry.name ≡ Some entry.places) slots

-- what was found of a name is what each such function says of it
abbrev pub IsRemembered : List (Option Entry) → List ℕ → Option Places → Type 0
IsRemembered slots name found = (f : List ℕ → Option Places) → Remembers f slots → IfSome found (λ p. f name ≡ Some p)

-- what is noted of a name is what the name has
abbrev pub AgreesWith : (List ℕ → Places) → BTreeMap (List ℕ) Places → Type 0
AgreesWith f table = (name : List ℕ) (found : Places) → value_of table name ≡ Some found → found ≡ f name

-- whether a name is noted
abbrev pub IsNoted : BTreeMap (List ℕ) Places → List ℕ → Type 0
IsNoted table name = IsSome (value_of table name)

-- the places of one more name, unless it is noted
abbrev pub Adds : (old new : BTreeMap (List ℕ) Places) → List ℕ → Places → Type 0
Adds old new name found = (n : List ℕ) → value_of new n ≡ option_or (value_of old n) (if bytes_eq n name then Some found else None)

-- nothing more is noted
abbrev pub IsSame : (old new : BTreeMap (List ℕ) Places) → Type 0
IsSame old new = (n : List ℕ) → value_of new n ≡ value_of old n
