-- The places of memories by their names.
use Rattle.std.specs.Prelude.{ℕ, ◌+◌, ◌≤◌, List, [], ◌∷◌, Option, Some, None, if◌then◌else◌}
use Rattle.std.specs.Option.{option_or}
use Rattle.std.specs.Str.{bytes_eq}
use Rattle.lisa_engine.specs.declared.parts.ArrayItem.{ArrayItem}

abbrev pub place_if_named : ℕ → ArrayItem → List ℕ → Option ℕ
place_if_named place a name = if bytes_eq a.name name then Some place else None

-- the place of the first memory of a name, counted from this one on
abbrev pub place_from : ℕ → List ArrayItem → List ℕ → Option ℕ
place_from place [] name = None
place_from place (a ∷ rest) name = option_or (place_if_named place a name) (place_from (place + 1) rest name)

-- the cells of a memory have from 1 to 64 bits
pub record HasWords (a : ArrayItem) : Type 0 where
  pub narrow : 1 ≤ a.width
  pub wide : a.width ≤ 64
