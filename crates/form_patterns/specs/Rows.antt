-- The places of the fields of all forms, a row for each form.
use Rattle.std.specs.Prelude.{◌≡◌, ℕ, List, [], map, slice_index_or}
use Rattle.std.specs.Global.{Vec}
use Rattle.lisa_tree.specs.Descriptions.{DescriptionTree}
use Rattle.instruction_forms.specs.coding_tables.Instructions.{forms_of}
use Rattle.pattern_tables.specs.declared.fields.Place.{Place}
use Rattle.pattern_tables.specs.Places.{pair_of}
use Rattle.form_patterns.specs.Instructions.{field_places}

-- the lowest bit and the width of each field
abbrev pub pairs : Vec Place → List (ℕ × ℕ)
pairs row = map pair_of row.items

abbrev pub pairs_at : List (Vec Place) → ℕ → List (ℕ × ℕ)
pairs_at rows k = slice_index_or (map pairs rows) k []

-- these are the places of the fields of a description's forms, in order
abbrev pub ArePlaces : DescriptionTree → List (Vec Place) → Type 0
ArePlaces d rows = map pairs rows ≡ map (field_places d) (forms_of d)
