-- What lines of objects define and hold, line by line.
use Rattle.std.specs.Prelude.{◌≡◌, ◌<◌, ◌≤◌, ℕ, ◌+◌, ◌^◌, ℤ, pos, true, List, [], ◌∷◌, Option, None, replicate}
use Rattle.lisa_object.specs.ObjectRules.{is_sum}
use Rattle.lisa_object.specs.Objects.{PlainObjectLine, Section, Space, Label, Equ, Global, Cell, Fix}
use Rattle.placed_programs.specs.Entries.{PlainCell, front_fixes}
use Rattle.placed_programs.specs.Addresses.{Counts, address}
use Rattle.placed_programs.specs.Symbols.{Symbols}
use Rattle.placed_programs.specs.Placed.{fix_value}
use Rattle.lisa_object.specs.declared.faults.LinkFault.{LinkFault}
use Rattle.object_links.specs.LinkFaults.{cell_fault}

-- the name that a line defines, with its value
abbrev pub line_defines : Counts → Option (List ℕ) → PlainObjectLine → List (List ℕ × ℤ)
line_defines counts here (Section n w) = []
line_defines counts here (Space n) = []
line_defines counts here (Label n) = (n, pos (address here counts)) ∷ []
line_defines counts here (Equ n v) = (n, v) ∷ []
line_defines counts here (Global n) = []
line_defines counts here (Cell v) = []
line_defines counts here (Fix l w k s) = []

-- a cell with the fixes at the front of these lines
abbrev pub cell_before : ℕ → List PlainObjectLine → PlainCell
cell_before v ls = record { bits = v; fixes = front_fixes ls }

-- a value with the fixes at the front of these lines added
abbrev pub fixed : Symbols → ℕ → ℕ → List PlainObjectLine → ℕ
fixed symbols a v [] = v
fixed symbols a v (Section n w ∷ ls) = v
fixed symbols a v (Space n ∷ ls) = v
fixed symbols a v (Label n ∷ ls) = v
fixed symbols a v (Equ n x ∷ ls) = v
fixed symbols a v (Global n ∷ ls) = v
fixed symbols a v (Cell x ∷ ls) = v
fixed symbols a v (Fix l w k s ∷ ls) = fixed symbols a (v + fix_value symbols a (record { lsb = l; width = w; kind = k; sum = s })) ls

-- the fixes at the front lie within 64 bits
abbrev pub AreFixes : List PlainObjectLine → Type 0
AreFixes [] = Unit {0}
AreFixes (Section n w ∷ ls) = Unit {0}
AreFixes (Space n ∷ ls) = Unit {0}
AreFixes (Label n ∷ ls) = Unit {0}
AreFixes (Equ n v ∷ ls) = Unit {0}
AreFixes (Global n ∷ ls) = Unit {0}
AreFixes (Cell v ∷ ls) = Unit {0}
AreFixes (Fix l w k s ∷ ls) = (1 ≤ w) × (l + w ≤ 64) × (is_sum s ≡ true) × AreFixes ls

-- a cell before these lines has at most 64 bits with its fixes
abbrev pub IsReady : PlainObjectLine → List PlainObjectLine → Type 0
IsReady (Section n w) ls = Unit {0}
IsReady (Space n) ls = Unit {0}
IsReady (Label n) ls = Unit {0}
IsReady (Equ n v) ls = Unit {0}
IsReady (Global n) ls = Unit {0}
IsReady (Cell v) ls = AreFixes ls × ((symbols : Symbols) (a : ℕ) → fixed symbols a v ls < 2 ^ 64)
IsReady (Fix l w k s) ls = Unit {0}

-- the cells of a line at this address, before these lines
abbrev pub line_cells : Symbols → ℕ → PlainObjectLine → List PlainObjectLine → List ℕ
line_cells symbols a (Section n w) ls = []
line_cells symbols a (Space n) ls = replicate n 0
line_cells symbols a (Label n) ls = []
line_cells symbols a (Equ n v) ls = []
line_cells symbols a (Global n) ls = []
line_cells symbols a (Cell v) ls = fixed symbols a v ls ∷ []
line_cells symbols a (Fix l w k s) ls = []

-- the fault of a line's fixes
abbrev pub line_fault : ℕ → Symbols → Option (List ℕ) → ℕ → PlainObjectLine → List PlainObjectLine → Option LinkFault
line_fault number symbols here a (Section n w) ls = None
line_fault number symbols here a (Space n) ls = None
line_fault number symbols here a (Label n) ls = None
line_fault number symbols here a (Equ n v) ls = None
line_fault number symbols here a (Global n) ls = None
line_fault number symbols here a (Cell v) ls = cell_fault number symbols here a (cell_before v ls)
line_fault number symbols here a (Fix l w k s) ls = None
