-- The image of programs that are placed one behind the other in each memory.
use Rattle.std.specs.Prelude.{ℕ, ◌+◌, ◌*◌, ◌^◌, ℤ, Bool, true, false, List, [], ◌∷◌, ◌++◌, map, filter, flat_map, replicate, sum_by, None}
use Rattle.std.specs.Str.{bytes_eq}
use Rattle.lisa_words.specs.Words.{reduced}
use Rattle.lisa_engine.specs.Memory.{Memory}
use Rattle.lisa_engine.specs.declared.parts.ArrayItem.{ArrayItem}
use Rattle.placed_programs.specs.Entries.{Entry, Enter, Room, Put, Mark, Equal, Share, PlainFix, PlainCell}
use Rattle.placed_programs.specs.Addresses.{Counts, no_cells, entry_size, definitions}
use Rattle.placed_programs.specs.Symbols.{Symbols, with_counts, all_exports, symbol, sum_value}

-- the value of a cell, by the symbols, the cell's own address and what it holds
abbrev pub Sense : Type 0 → Type 0
Sense C = Symbols → ℕ → C → ℕ

-- whether this memory is entered behind an entry
abbrev pub is_inside : {C : Type 0} → List ℕ → Bool → Entry C → Bool
is_inside memory inside (Enter n w) = bytes_eq memory n
is_inside memory inside (Room n) = inside
is_inside memory inside (Put c) = inside
is_inside memory inside (Mark n) = inside
is_inside memory inside (Equal n v) = inside
is_inside memory inside (Share n) = inside

-- the cells of an entry, at this address
abbrev pub entry_cells : {C : Type 0} → Sense C → Symbols → ℕ → Entry C → List ℕ
entry_cells sense symbols a (Enter n w) = []
entry_cells sense symbols a (Room n) = replicate n 0
entry_cells sense symbols a (Put c) = sense symbols a c ∷ []
entry_cells sense symbols a (Mark n) = []
entry_cells sense symbols a (Equal n v) = []
entry_cells sense symbols a (Share n) = []

-- the cells that entries have in a memory, where its next address is `a` and it is entered or isn't
abbrev pub cells_in : {C : Type 0} → Sense C → Symbols → List ℕ → Bool → ℕ → List (Entry C) → List ℕ
cells_in sense symbols memory inside a [] = []
cells_in sense symbols memory true a (e ∷ es) =
    entry_cells sense symbols a e ++ cells_in sense symbols memory (is_inside memory true e) (a + entry_size e) es
cells_in sense symbols memory false a (e ∷ es) = cells_in sense symbols memory (is_inside memory false e) a es

-- the cells of a part in a memory, where others share these definitions
abbrev pub part_cells : {C : Type 0} → Sense C → List (List ℕ × ℤ) → List ℕ → Counts × List (Entry C) → List ℕ
part_cells sense others memory p = cells_in sense (symbol (definitions p.0 None p.1) others) memory false (p.0 memory) p.1

-- a memory with the cells of all parts, one part behind the other
abbrev pub placed_memory : {C : Type 0} → Sense C → List (Counts × List (Entry C)) → ArrayItem → Memory
placed_memory sense parts a =
    record { name = a.name; width = a.width; depth = a.depth; cells = flat_map (part_cells sense (all_exports parts) a.name) parts }

abbrev pub is_some_cell : List ℕ → Bool
is_some_cell [] = false
is_some_cell (c ∷ cs) = true

-- the memories that have cells, in their order
abbrev pub placed_image : {C : Type 0} → Sense C → List ArrayItem → List (List (Entry C)) → List Memory
placed_image sense memories parts = filter (λ m. is_some_cell m.cells) (map (placed_memory sense (with_counts no_cells parts)) memories)

-- ---- cells of objects: their bits, and the value of each sum, reduced to its width, at its lowest bit

abbrev pub fix_value : Symbols → ℕ → PlainFix → ℕ
fix_value symbols a f = reduced (sum_value symbols a f.sum) f.width * 2 ^ f.lsb

abbrev pub object_sense : Sense PlainCell
object_sense symbols a c = c.bits + sum_by (fix_value symbols a) c.fixes
