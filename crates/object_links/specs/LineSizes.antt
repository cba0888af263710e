-- Cells in the lines of objects, line by line.
use Rattle.std.specs.Prelude.{ℕ, List, Option, Some, unwrap_or}
use Rattle.std.specs.BTreeMap.{BTreeMap}
use Rattle.name_tables.specs.TableViews.{value_of}
use Rattle.lisa_object.specs.Objects.{PlainObjectLine, Section, Space, Label, Equ, Global, Cell, Fix}

-- how many cells a line has
abbrev pub line_size : PlainObjectLine → ℕ
line_size (Section n w) = 0
line_size (Space n) = n
line_size (Label n) = 0
line_size (Equ n v) = 0
line_size (Global n) = 0
line_size (Cell v) = 1
line_size (Fix l w k s) = 0

-- the memory that is entered behind a line
abbrev pub line_enters : Option (List ℕ) → PlainObjectLine → Option (List ℕ)
line_enters here (Section n w) = Some n
line_enters here (Space n) = here
line_enters here (Label n) = here
line_enters here (Equ n v) = here
line_enters here (Global n) = here
line_enters here (Cell v) = here
line_enters here (Fix l w k s) = here

-- what a table counts for a memory
abbrev pub count_of : BTreeMap (List ℕ) ℕ → List ℕ → ℕ
count_of counts m = unwrap_or (value_of counts m) 0
