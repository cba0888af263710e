-- Names in the lines of objects, line by line.
use Rattle.std.specs.Prelude.{ℕ, List, [], ◌∷◌, filter, filter_map, flat_map, map, Option, None}
use Rattle.std.specs.List.{list_any}
use Rattle.std.specs.Str.{bytes_eq}
use Rattle.asm_source.specs.declared.parts.Term.{Term}
use Rattle.lisa_object.specs.Objects.{PlainObject, PlainObjectLine, Section, Space, Label, Equ, Global, Cell, Fix}
use Rattle.placed_programs.specs.Entries.{Entry, PlainCell, entries_of}
use Rattle.lisa_object.specs.ObjectRules.{defined}
use Rattle.object_links.specs.LinkFaults.{if_unknown}

-- the entries of each object
abbrev pub parts_of : List PlainObject → List (List (Entry PlainCell))
parts_of objects = map (λ o. entries_of o.lines) objects

-- the name that a line shares
abbrev pub line_shares : PlainObjectLine → List (List ℕ)
line_shares (Section n w) = []
line_shares (Space n) = []
line_shares (Label n) = []
line_shares (Equ n v) = []
line_shares (Global n) = n ∷ []
line_shares (Cell v) = []
line_shares (Fix l w k s) = []

-- the names in a line's sum
abbrev pub line_uses : PlainObjectLine → List (List ℕ)
line_uses (Section n w) = []
line_uses (Space n) = []
line_uses (Label n) = []
line_uses (Equ n v) = []
line_uses (Global n) = []
line_uses (Cell v) = []
line_uses (Fix l w k s) = filter_map (λ (t : Term). t.name) s.terms

-- the name of a line's section, where it is no memory's
abbrev pub line_unknown : (List ℕ → Option ℕ) → PlainObjectLine → Option (List ℕ)
line_unknown widths (Section n w) = if_unknown widths n w
line_unknown widths (Space n) = None
line_unknown widths (Label n) = None
line_unknown widths (Equ n v) = None
line_unknown widths (Global n) = None
line_unknown widths (Cell v) = None
line_unknown widths (Fix l w k s) = None

-- the names that lines define and share
abbrev pub line_exports : List PlainObjectLine → List (List ℕ)
line_exports ls = filter (λ n. list_any (bytes_eq n) (flat_map line_shares ls)) (flat_map defined ls)
