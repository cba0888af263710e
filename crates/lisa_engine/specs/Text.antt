-- The texts of states and of traces.
use Rattle.std.specs.Prelude.{ℕ, List, [], ◌∷◌, ◌++◌, codes, false, decimal, if◌then◌else◌, ◌==◌}
use Rattle.std.proofs.Common.{zero, suc}
use Rattle.std.specs.Fmt.{digits}
use Rattle.std.specs.List.{flat_map, zip, enumerate_from}
use Rattle.lisa_engine.specs.State.{State}
use Rattle.lisa_engine.specs.declared.parts.Item.{Item}
use Rattle.lisa_engine.specs.declared.parts.ArrayItem.{ArrayItem}

abbrev pub newline : List ℕ
newline = 10 ∷ []

-- what stands after a name: a blank, the value and the line's end
abbrev pub value_text : ℕ → List ℕ
value_text value = codes " 0x" ++ (digits 16 false value ++ newline)

abbrev pub item_line : Item × ℕ → List ℕ
item_line (item, value) = item.name ++ value_text value

abbrev pub item_lines : List Item → List ℕ → List ℕ
item_lines items values = flat_map item_line (zip items values)

abbrev pub edge_line : ℕ → List ℕ
edge_line edge = codes "edge " ++ (decimal edge ++ newline)

abbrev pub cell_text : List ℕ → ℕ → ℕ → List ℕ
cell_text name index value = name ++ ((codes "[" ++ (decimal index ++ codes "]")) ++ value_text value)

-- a cell that is 0 has no line
abbrev pub cell_line : List ℕ → ℕ × ℕ → List ℕ
cell_line name (index, value) = if value == 0 then [] else cell_text name index value

abbrev pub array_lines : ArrayItem × List ℕ → List ℕ
array_lines (array, cells) = flat_map (cell_line array.name) (enumerate_from 0 cells)

-- the edge, a line for each item, and a line for each cell that isn't 0, by array and index
abbrev pub state_text : List Item → List ArrayItem → ℕ → State → List ℕ
state_text items arrays edge state = edge_line edge ++ (item_lines items state.items ++ flat_map array_lines (zip arrays state.cells))

-- a line where the value changed
abbrev pub changed_line : Item × (ℕ × ℕ) → List ℕ
changed_line (item, (before, now)) = if before == now then [] else item_line (item, now)

abbrev pub changed_cell : List ℕ → ℕ × (ℕ × ℕ) → List ℕ
changed_cell name (index, (before, now)) = if before == now then [] else cell_text name index now

abbrev pub changed_array : ArrayItem × (List ℕ × List ℕ) → List ℕ
changed_array (array, (before, now)) = flat_map (changed_cell array.name) (enumerate_from 0 (zip before now))

abbrev pub changed_items : List Item → List ℕ → List ℕ → List ℕ
changed_items items before now = flat_map changed_line (zip items (zip before now))

abbrev pub changed_cells : List ArrayItem → List (List ℕ) → List (List ℕ) → List ℕ
changed_cells arrays before now = flat_map changed_array (zip arrays (zip before now))

-- the edge, a line for each item that changed, and a line for each cell that changed, by array and index
abbrev pub change_text : List Item → List ArrayItem → ℕ → State → State → List ℕ
change_text items arrays edge before now = edge_line edge ++ (changed_items items before.items now.items ++ changed_cells arrays before.cells now.cells)

-- what each of n edges changed, where `state k` is the state after k edges
abbrev pub changes_text : List Item → List ArrayItem → (ℕ → State) → ℕ → List ℕ
changes_text items arrays state zero = []
changes_text items arrays state (suc n) = changes_text items arrays state n ++ change_text items arrays (suc n) (state n) (state (suc n))

-- the text of the state after no edge, and then what each of n edges changed
abbrev pub trace_text : List Item → List ArrayItem → (ℕ → State) → ℕ → List ℕ
trace_text items arrays state n = state_text items arrays 0 (state 0) ++ changes_text items arrays state n
