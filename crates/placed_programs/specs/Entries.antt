-- What sources and objects say alike: lists of entries, which differ in what a cell holds.
use Rattle.std.specs.Prelude.{ℕ, ℤ, List, [], ◌∷◌, map, flat_map}
use Rattle.asm_source.specs.Plain.{PlainSum}
use Rattle.lisa_object.specs.declared.parts.FixKind.{FixKind}
use Rattle.lisa_object.specs.Objects.{PlainObjectLine, Section, Space, Label, Equ, Global, Cell, Fix}

-- `C` is what a cell holds
pub data Entry (C : Type 0) : Type 0 where
  -- what follows goes to this memory, whose cells are so wide
  Enter : List ℕ → ℕ → Entry C
  -- so many cells of 0
  Room : ℕ → Entry C
  -- a cell
  Put : C → Entry C
  -- a label
  Mark : List ℕ → Entry C
  -- a name for a number
  Equal : List ℕ → ℤ → Entry C
  -- a definition of this name is seen by others
  Share : List ℕ → Entry C

-- the same entry, with another content of its cell
abbrev pub mapped : {C D : Type 0} → (C → D) → Entry C → Entry D
mapped f (Enter n w) = Enter n w
mapped f (Room n) = Room n
mapped f (Put c) = Put (f c)
mapped f (Mark n) = Mark n
mapped f (Equal n v) = Equal n v
mapped f (Share n) = Share n

-- ---- the entries of objects

-- a sum whose value goes to bits of a cell
pub record PlainFix : Type 0 where
  pub lsb : ℕ
  pub width : ℕ
  pub kind : FixKind
  pub sum : PlainSum

-- a cell of an object: its bits, and what is still to be added
pub record PlainCell : Type 0 where
  pub bits : ℕ
  pub fixes : List PlainFix

abbrev pub fix_line : PlainFix → PlainObjectLine
fix_line f = Fix f.lsb f.width f.kind f.sum

-- the lines of an entry
abbrev pub entry_lines : Entry PlainCell → List PlainObjectLine
entry_lines (Enter n w) = Section n w ∷ []
entry_lines (Room n) = Space n ∷ []
entry_lines (Put c) = Cell c.bits ∷ map fix_line c.fixes
entry_lines (Mark n) = Label n ∷ []
entry_lines (Equal n v) = Equ n v ∷ []
entry_lines (Share n) = Global n ∷ []

abbrev pub lines_of : List (Entry PlainCell) → List PlainObjectLine
lines_of es = flat_map entry_lines es

-- the fixes at the front of lines
abbrev pub front_fixes : List PlainObjectLine → List PlainFix
front_fixes [] = []
front_fixes (Section n w ∷ ls) = []
front_fixes (Space n ∷ ls) = []
front_fixes (Label n ∷ ls) = []
front_fixes (Equ n v ∷ ls) = []
front_fixes (Global n ∷ ls) = []
front_fixes (Cell v ∷ ls) = []
front_fixes (Fix l w k s ∷ ls) = record { lsb = l; width = w; kind = k; sum = s } ∷ front_fixes ls

-- The entries of lines: a cell has the fixes directly behind it.
abbrev pub entries_of : List PlainObjectLine → List (Entry PlainCell)
entries_of [] = []
entries_of (Section n w ∷ ls) = Enter n w ∷ entries_of ls
entries_of (Space n ∷ ls) = Room n ∷ entries_of ls
entries_of (Label n ∷ ls) = Mark n ∷ entries_of ls
entries_of (Equ n v ∷ ls) = Equal n v ∷ entries_of ls
entries_of (Global n ∷ ls) = Share n ∷ entries_of ls
entries_of (Cell v ∷ ls) = Put (record { bits = v; fixes = front_fixes ls }) ∷ entries_of ls
entries_of (Fix l w k s ∷ ls) = entries_of ls
