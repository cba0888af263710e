-- What a part has, and what all parts have.
use Rattle.std.specs.Prelude.{ℕ, ℤ, List, None, Option, flat_map}
use Rattle.lisa_object.specs.declared.faults.LinkFault.{LinkFault}
use Rattle.placed_programs.specs.Addresses.{Counts, no_cells, definitions}
use Rattle.placed_programs.specs.Symbols.{with_counts, all_exports, symbol}
use Rattle.placed_programs.specs.Placed.{object_sense, part_cells}
use Rattle.object_links.specs.LinkFaults.{Entries, range_in}

-- the first value of a part that doesn't fit its bits, where others share these definitions
abbrev pub part_fault : ℕ → List (List ℕ × ℤ) → Counts × Entries → Option LinkFault
part_fault number shared p = range_in number (symbol (definitions p.0 None p.1) shared) p.0 None p.1

-- the cells of all parts in a memory
abbrev pub all_cells : List Entries → List ℕ → List ℕ
all_cells parts memory = let all = with_counts no_cells parts in flat_map (part_cells object_sense (all_exports all) memory) all
