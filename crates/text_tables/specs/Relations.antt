-- How lists that texts share stand to each other.
use Rattle.std.specs.Prelude.{ℕ, List, [], map, slice_index_or}
use Rattle.instruction_texts.specs.declared.shapes.Shape.{Shape}
use Rattle.text_tables.specs.declared.openings.Relation.{Relation}
use Rattle.text_tables.specs.declared.openings.Relation.TheVariants.{Open}
use Rattle.text_tables.specs.declared.relations.Relations.{Relations}
use Rattle.text_tables.specs.Openings.{IsRelated}
use Rattle.text_tables.specs.Shared.{shapes_at}

-- what is known of the list k and each list, as far as something is
abbrev pub IsRow : List (List Shape) → ℕ → List Relation → Type 0
IsRow all k row = (j : ℕ) → IsRelated (shapes_at all k) (shapes_at all j) (slice_index_or row j Open)

-- the same of each list
abbrev pub AreRows : List (List Shape) → List (List Relation) → Type 0
AreRows all rows = (k : ℕ) → IsRow all k (slice_index_or rows k [])

abbrev pub AreRelated : List (List Shape) → Relations → Type 0
AreRelated all r = AreRows all (map (λ v. v.items) r.rows.items)
