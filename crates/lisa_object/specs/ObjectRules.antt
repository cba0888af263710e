-- The rules that objects keep.
use Rattle.std.specs.Prelude.{ℕ, ◌+◌, ◌-◌, ◌*◌, ◌/◌, ◌%◌, ◌^◌, ◌<◌, ◌≤◌, ◌≡◌, ◌≢◌, ℤ, pos, ◌-ℤ◌, int_le, Bool, true, List, [], ◌∷◌, ◌++◌, length, get_or, reverse, All, AllPairs, IsTrue, Option, Some, None, nat_le, ◌==◌, ◌&&◌}
use Rattle.std.specs.List.{list_all, flat_map}
use Rattle.asm_source.specs.Bytes.{is_name}
use Rattle.asm_source.specs.Plain.{PlainSum}
use Rattle.asm_source.specs.declared.parts.Term.{Term}
use Rattle.lisa_object.specs.declared.parts.FixKind.{FixKind}
use Rattle.lisa_object.specs.declared.parts.FixKind.TheVariants as kinds
use Rattle.lisa_object.specs.Objects.{PlainObjectLine, Section, Space, Label, Equ, Global, Cell, Fix, PlainObject}
use Rattle.lisa_object.specs.Rules.{IsDigest}

-- ---- a line by itself: its names are names, its numbers in their ranges

abbrev pub is_symbol : Option (List ℕ) → Bool
is_symbol None = true
is_symbol (Some name) = is_name name

abbrev pub has_symbol : Term → Bool
has_symbol t = is_symbol t.name

abbrev pub has_names : PlainObjectLine → Bool
has_names (Section n w) = is_name n
has_names (Label n) = is_name n
has_names (Equ n v) = is_name n
has_names (Global n) = is_name n
has_names (Fix l w k s) = list_all has_symbol s.terms
has_names _ = true

-- a number whose size is at most this
abbrev pub is_within : ℕ → ℤ → Bool
is_within most n = int_le (pos 0 -ℤ pos most) n && int_le n (pos most)

abbrev pub is_sum : PlainSum → Bool
is_sum s = is_within (8 * (2 ^ 64 - 1)) s.constant && nat_le (length s.terms) 8

abbrev pub IsInRange : PlainObjectLine → Type 0
IsInRange (Section n w) = (1 ≤ w) × (w ≤ 64)
IsInRange (Space n) = n ≤ 1048576
IsInRange (Label n) = Unit {0}
IsInRange (Equ n v) = IsTrue (is_within (2 ^ 64 - 1) v)
IsInRange (Global n) = Unit {0}
IsInRange (Cell v) = Unit {0}
IsInRange (Fix l w k s) = (1 ≤ w) × IsTrue (is_sum s)

-- ---- a line behind others

abbrev pub widths : PlainObjectLine → List ℕ
widths (Section n w) = w ∷ []
widths _ = []

-- how wide the cells are behind these lines: as their last section says, 0 where they have none
abbrev pub section_width : List PlainObjectLine → ℕ
section_width ls = get_or (reverse (flat_map widths ls)) 0 0

abbrev pub fits_kind : ℕ → FixKind → ℕ → ℕ → Bool
fits_kind section kinds.Whole lsb width = lsb == 0 && width == section
fits_kind section _ lsb width = true

-- the bits of a fix are 0 in the cell
abbrev pub is_clear : ℕ → ℕ → ℕ → Bool
is_clear cell lsb width = (cell / 2 ^ lsb) % 2 ^ width == 0

-- a fix whose bits begin at this one or above it
abbrev pub IsFixFrom : ℕ → PlainObjectLine → Type 0
IsFixFrom bit (Section n w) = ⊥
IsFixFrom bit (Space n) = ⊥
IsFixFrom bit (Label n) = ⊥
IsFixFrom bit (Equ n v) = ⊥
IsFixFrom bit (Global n) = ⊥
IsFixFrom bit (Cell v) = ⊥
IsFixFrom bit (Fix l w k s) = bit ≤ l

-- A fix has its cell: between them stand fixes alone, all of them above its bits, which lie in the cell and are 0 there.
pub record HasCell (before : List PlainObjectLine) (lsb width : ℕ) (kind : FixKind) : Type 0 where
  pub front : List PlainObjectLine
  pub bits : ℕ
  pub between : List PlainObjectLine
  pub cell : before ≡ front ++ Cell bits ∷ between
  pub above : All (IsFixFrom (lsb + width)) between
  pub within : lsb + width ≤ section_width front
  pub clear : IsTrue (is_clear bits lsb width)
  pub kind_fits : IsTrue (fits_kind (section_width front) kind lsb width)

-- Labels, spaces and cells have a section before them, and fixes have their cell.
abbrev pub MayStand : List PlainObjectLine → PlainObjectLine → Type 0
MayStand before (Section n w) = Unit {0}
MayStand before (Space n) = 0 < section_width before
MayStand before (Label n) = 0 < section_width before
MayStand before (Equ n v) = Unit {0}
MayStand before (Global n) = Unit {0}
MayStand before (Cell v) = (0 < section_width before) × (v < 2 ^ section_width before)
MayStand before (Fix l w k s) = HasCell before l w k

pub record AreLines (ls : List PlainObjectLine) : Type 0 where
  pub names : All (λ l. IsTrue (has_names l)) ls
  pub ranges : All IsInRange ls
  pub order : (before behind : List PlainObjectLine) (l : PlainObjectLine) → ls ≡ before ++ l ∷ behind → MayStand before l

-- ---- names

-- the name that a line defines, if it does
abbrev pub defined : PlainObjectLine → List (List ℕ)
defined (Label n) = n ∷ []
defined (Equ n v) = n ∷ []
defined _ = []

pub record IsObject (o : PlainObject) : Type 0 where
  pub digest : IsDigest o.digest
  pub lines : AreLines o.lines
  pub distinct : AllPairs (λ a b. a ≢ b) (flat_map defined o.lines)
