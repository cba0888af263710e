-- What the checks look for, as functions: of a list, what is told of the first that is wrong.
use Rattle.std.specs.Prelude.{ℕ, zero, suc, ◌≡◌, ◌^◌, ◌-◌, Bool, false, min, List, [], ◌∷◌, codes, Option, Some, None, nat_eq, nat_lt, nat_le, ◌&&◌, if◌then◌else◌}
use Rattle.std.specs.Option.{option_or}
use Rattle.std.specs.List.{list_any}
use Rattle.std.specs.Str.{bytes_eq}
use Rattle.std.specs.Cmp.Lexicographic.{pointwise}
use Rattle.std.specs.BTreeMap.{BTreeMap}
use Rattle.name_tables.specs.TableViews.{value_of}
use Rattle.name_tables.specs.Keys.{insert_all}
use Rattle.verilog_text.specs.declared.faults.VerilogFault.{VerilogFault}
use Rattle.verilog_text.specs.declared.faults.VerilogFault.TheVariants as faults
use Rattle.verilog_text.specs.Trees.{VTree, ActionTrees, ModuleTree}
use Rattle.verilog_text.specs.Values.{v_width}
use Rattle.verilog_text.specs.Clocked.{widths_of}
use Rattle.verilog_text.specs.Conditions.{Sort, Store, sort_of, targets, Counted, AtMost, Depth}
use Rattle.verilog_places.specs.declared.modules.PlacedInput.{PlacedInput}
use Rattle.verilog_places.specs.Trees.{PlacedMemberTree, Reg, Array, Wire}
use Rattle.verilog_size_checks.specs.declared.tables.Kind.{Kind}
use Rattle.verilog_size_checks.specs.declared.tables.Kind.TheVariants as kinds

-- the first answer that a function has for an element
abbrev pub first_of : {A B : Type 0} → (A → Option B) → List A → Option B
first_of f [] = None
first_of f (x ∷ xs) = option_or (f x) (first_of f xs)

-- ---- tables of names

-- the number of a name, for that name alone
abbrev pub named_value : (name : List ℕ) → (value : ℕ) → List ℕ → Option ℕ
named_value name value n = if bytes_eq name n then Some value else None

-- what a member gives to a table of this kind for a name
abbrev pub member_value : Kind → List ℕ → PlacedMemberTree → Option ℕ
member_value kinds.Regs n (Reg range item) = named_value item.name item.width n
member_value kinds.Nets n (Wire range item e) = named_value item.name item.width n
member_value kinds.Cells n (Array range array) = named_value array.name array.width n
member_value kinds.Depths n (Reg range item) = named_value item.name 0 n
member_value kinds.Depths n (Array range array) = named_value array.name array.depth n
member_value kinds.Depths n (Wire range item e) = named_value item.name 0 n
member_value kind n member = None

abbrev pub input_value : Kind → List ℕ → PlacedInput → Option ℕ
input_value kinds.Depths n input = named_value input.item.name 0 n
input_value kind n input = named_value input.item.name input.item.width n

-- names that have no number yet get those of the function
abbrev pub Adds : (old new : BTreeMap (List ℕ) ℕ) → (List ℕ → Option ℕ) → Type 0
Adds old new numbers = (n : List ℕ) → value_of new n ≡ option_or (value_of old n) (numbers n)

-- ---- lengths and indexes

-- a length of any size, as 32 bits tell it
unfoldable pub capped : ℕ → ℕ
capped n = min n (2 ^ 32 - 1)

-- the greatest number below the first of which 2 to it is the second
abbrev pub power_below : ℕ → ℕ → Option ℕ
power_below zero depth = None
power_below (suc k) depth = if nat_eq (2 ^ k) depth then Some k else power_below k depth

-- the number of which 2 to it is the depth
unfoldable pub exponent : ℕ → Option ℕ
exponent depth = power_below depth depth

-- the length that an index needs
abbrev pub sort_needs : Option Sort → Option ℕ
sort_needs (Some (Store width depth)) = exponent depth
sort_needs _ = None

unfoldable pub needs : ModuleTree → List ℕ → Option ℕ
needs m name = sort_needs (sort_of m name)

-- what is told of an index of this length: the array, the length and the one that is needed
abbrev pub misfit : List ℕ → (width : ℕ) → Option ℕ → Option (List ℕ × ℕ × ℕ)
misfit name width None = None
misfit name width (Some needed) = if nat_eq width needed then None else Some (name, capped width, needed)

abbrev pub index_fault : ModuleTree → List ℕ × VTree → Option (List ℕ × ℕ × ℕ)
index_fault m p = misfit p.0 (v_width (widths_of m) p.1) (needs m p.0)

-- the fault tells what was found, or memory was wanted
abbrev pub TellsIndex : Option (List ℕ × ℕ × ℕ) → VerilogFault → Type 0
TellsIndex found (faults.IndexWidth name width needed) = found ≡ Some (name, width, needed)
TellsIndex found faults.NoMemory = Unit {0}
TellsIndex found _ = ⊥

-- ---- widths

abbrev pub TellsPlace : Option ℕ → VerilogFault → Type 0
TellsPlace found (faults.TooWide at) = found ≡ Some at
TellsPlace found _ = ⊥

-- ---- drivers

-- a name that is among others
abbrev pub again : List (List ℕ) → List ℕ → Option (List ℕ)
again names name = if list_any (pointwise nat_eq name) names then Some name else None

-- the first name that a block assigns and an earlier one has assigned, or these names have
abbrev pub driven_again : List (List ℕ) → List ActionTrees → Option (List ℕ)
driven_again names [] = None
driven_again names (block ∷ rest) = option_or (first_of (again names) (targets block)) (driven_again (insert_all names (targets block)) rest)

abbrev pub TellsDriver : Option (List ℕ) → VerilogFault → Type 0
TellsDriver found (faults.TwoDrivers name) = found ≡ Some name
TellsDriver found faults.NoMemory = Unit {0}
TellsDriver found _ = ⊥

-- ---- counts

abbrev pub is_within : Option ℕ → Bool
is_within None = false
is_within (Some k) = nat_le 1 k && nat_le k 20

abbrev pub count_fault : Counted → Option (List ℕ × ℕ × ℕ)
count_fault (AtMost what count limit) = if nat_lt limit count then Some (what, count, limit) else None
count_fault (Depth depth) = if is_within (exponent depth) then None else Some (codes "depth", depth, 1048576)

abbrev pub TellsCount : Option (List ℕ × ℕ × ℕ) → VerilogFault → Type 0
TellsCount found (faults.TooMany what count limit) = found ≡ Some (what, count, limit)
TellsCount found faults.NoMemory = Unit {0}
TellsCount found _ = ⊥
