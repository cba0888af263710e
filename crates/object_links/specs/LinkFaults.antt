-- Why objects aren't linked. There are five conditions; the first of them that is met is told, where it is met first.
use Rattle.std.specs.Prelude.{ℕ, ◌+◌, ◌-◌, ◌^◌, ◌==◌, ℤ, pos, ◌-ℤ◌, int_le, int_lt, nat_lt, min, Bool, false, ◌||◌, ◌&&◌, not, List, [], ◌∷◌, filter, find, flat_map, filter_map, Option, Some, None, option_map, if◌then◌else◌}
use Rattle.std.specs.List.{list_any}
use Rattle.std.specs.Option.{option_or}
use Rattle.std.specs.Str.{bytes_eq}
use Rattle.asm_source.specs.declared.parts.Term.{Term}
use Rattle.lisa_engine.specs.declared.parts.ArrayItem.{ArrayItem}
use Rattle.lisa_object.specs.declared.parts.FixKind.{FixKind}
use Rattle.lisa_object.specs.declared.parts.FixKind.TheVariants as kinds
use Rattle.lisa_object.specs.declared.faults.LinkFault.{LinkFault}
use Rattle.lisa_object.specs.declared.faults.LinkFault.TheVariants as faults
use Rattle.placed_programs.specs.Entries.{Entry, Enter, Room, Put, Mark, Equal, Share, PlainFix, PlainCell}
use Rattle.placed_programs.specs.Addresses.{Counts, no_cells, adding, entry_size, entered, counts_after, address, definitions}
use Rattle.placed_programs.specs.Symbols.{Symbols, with_counts, is_shared, all_exports, symbol, sum_value}
use Rattle.object_links.specs.Firsts.{first_of, first_double}

-- the entries of an object
abbrev pub Entries : Type 0
Entries = List (Entry PlainCell)

-- ---- 1: a section's name and width are no memory's

abbrev pub width_if_named : List ℕ → ArrayItem → Option ℕ
width_if_named name a = if bytes_eq name a.name then Some a.width else None

-- the width of the memory of this name
abbrev pub named_width : List ArrayItem → List ℕ → Option ℕ
named_width memories name = first_of (width_if_named name) memories

abbrev pub has_width : Option ℕ → ℕ → Bool
has_width None width = false
has_width (Some w) width = w == width

-- the name of a section, where the memory of this name hasn't its width
abbrev pub if_unknown : (List ℕ → Option ℕ) → List ℕ → ℕ → Option (List ℕ)
if_unknown widths name width = if has_width (widths name) width then None else Some name

abbrev pub unknown : (List ℕ → Option ℕ) → Entry PlainCell → Option (List ℕ)
unknown widths (Enter n w) = if_unknown widths n w
unknown widths (Room n) = None
unknown widths (Put c) = None
unknown widths (Mark n) = None
unknown widths (Equal n v) = None
unknown widths (Share n) = None

abbrev pub first_unknown : List ArrayItem → List Entries → Option (List ℕ)
first_unknown memories parts = first_of (first_of (unknown (named_width memories))) parts

-- ---- 2: two objects define a name as global; the one whose second definition comes first is told

abbrev pub named_by : Entry PlainCell → List (List ℕ)
named_by (Enter n w) = []
named_by (Room n) = []
named_by (Put c) = []
named_by (Mark n) = n ∷ []
named_by (Equal n v) = n ∷ []
named_by (Share n) = []

abbrev pub own_names : Entries → List (List ℕ)
own_names es = flat_map named_by es

abbrev pub exported_names : Entries → List (List ℕ)
exported_names es = filter (is_shared es) (own_names es)

abbrev pub all_exported : List Entries → List (List ℕ)
all_exported parts = flat_map exported_names parts

abbrev pub double_export : List Entries → Option (List ℕ)
double_export parts = first_double [] (all_exported parts)

-- ---- 3: the objects together give a memory more cells than its depth; the first such memory is told

abbrev pub all_counts : Counts → List Entries → Counts
all_counts counts [] = counts
all_counts counts (es ∷ parts) = all_counts (counts_after counts None es) parts

-- a number past 2 ^ 64 - 1 is written as that
abbrev pub capped : ℕ → ℕ
capped n = min n (2 ^ 64 - 1)

abbrev pub if_overfull : Counts → ArrayItem → Option LinkFault
if_overfull counts a = if nat_lt a.depth (counts a.name) then Some (faults.DoesNotFit a.name (capped (counts a.name)) a.depth) else None

abbrev pub overfull : List ArrayItem → List Entries → Option LinkFault
overfull memories parts = first_of (if_overfull (all_counts no_cells parts)) memories

-- ---- 4: a name is neither the object's own nor a global

abbrev pub fix_names : PlainFix → List (List ℕ)
fix_names f = filter_map (λ (t : Term). t.name) f.sum.terms

abbrev pub used_by : Entry PlainCell → List (List ℕ)
used_by (Enter n w) = []
used_by (Room n) = []
used_by (Put c) = flat_map fix_names c.fixes
used_by (Mark n) = []
used_by (Equal n v) = []
used_by (Share n) = []

abbrev pub is_defined : (own others : List (List ℕ)) → List ℕ → Bool
is_defined own others name = list_any (bytes_eq name) own || list_any (bytes_eq name) others

abbrev pub undefined_in : List (List ℕ) → Entries → Option (List ℕ)
undefined_in others es = find (λ name. not (is_defined (own_names es) others name)) (flat_map used_by es)

-- objects count from this number on
abbrev pub undefined_from : ℕ → List (List ℕ) → List Entries → Option LinkFault
undefined_from number others [] = None
undefined_from number others (es ∷ parts) = option_or (option_map (faults.Undefined number) (undefined_in others es)) (undefined_from (number + 1) others parts)

-- ---- 5: a value doesn't fit its field

abbrev pub in_range : FixKind → ℕ → ℤ → Bool
in_range kinds.Unsigned width v = int_le (pos 0) v && int_lt v (pos (2 ^ width))
in_range kinds.Signed width v = int_le (pos 0 -ℤ pos (2 ^ (width - 1))) v && int_lt v (pos (2 ^ (width - 1)))
in_range kinds.Whole width v = int_le (pos 0 -ℤ pos (2 ^ (width - 1))) v && int_lt v (pos (2 ^ width))

-- a fix of an object with this number, in the cell of a memory at this address
abbrev pub fix_fault : ℕ → Symbols → List ℕ → ℕ → PlainFix → Option LinkFault
fix_fault number symbols memory a f =
    let value = sum_value symbols a f.sum in
    if in_range f.kind f.width value then None else Some (faults.FieldRange number memory a value f.width)

abbrev pub cell_fault : ℕ → Symbols → Option (List ℕ) → ℕ → PlainCell → Option LinkFault
cell_fault number symbols None a c = None
cell_fault number symbols (Some memory) a c = first_of (fix_fault number symbols memory a) c.fixes

abbrev pub entry_fault : ℕ → Symbols → Option (List ℕ) → ℕ → Entry PlainCell → Option LinkFault
entry_fault number symbols here a (Enter n w) = None
entry_fault number symbols here a (Room n) = None
entry_fault number symbols here a (Put c) = cell_fault number symbols here a c
entry_fault number symbols here a (Mark n) = None
entry_fault number symbols here a (Equal n v) = None
entry_fault number symbols here a (Share n) = None

abbrev pub range_in : ℕ → Symbols → Counts → Option (List ℕ) → Entries → Option LinkFault
range_in number symbols counts here [] = None
range_in number symbols counts here (e ∷ es) =
    option_or (entry_fault number symbols here (address here counts) e) (range_in number symbols (adding here (entry_size e) counts) (entered here e) es)

abbrev pub range_from : ℕ → List (List ℕ × ℤ) → List (Counts × Entries) → Option LinkFault
range_from number others [] = None
range_from number others (p ∷ parts) =
    option_or (range_in number (symbol (definitions p.0 None p.1) others) p.0 None p.1) (range_from (number + 1) others parts)

abbrev pub out_of_range : List Entries → Option LinkFault
out_of_range parts = let all = with_counts no_cells parts in range_from 1 (all_exports all) all

-- ---- the fault of objects, by the memories of a description

-- the first of the conditions that need no value
abbrev pub fault_before_values : List ArrayItem → List Entries → Option LinkFault
fault_before_values memories parts =
    option_or (option_map faults.NoSuchMemory (first_unknown memories parts))
    (option_or (option_map faults.DuplicateGlobal (double_export parts))
    (option_or (overfull memories parts)
    (undefined_from 1 (all_exported parts) parts)))

abbrev pub link_fault : List ArrayItem → List Entries → Option LinkFault
link_fault memories parts = option_or (fault_before_values memories parts) (out_of_range parts)
