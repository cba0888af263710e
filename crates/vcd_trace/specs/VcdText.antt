-- The text of a run as a value change dump.
use Rattle.std.specs.Prelude.{ℕ, ◌+◌, ◌/◌, ◌%◌, List, [], ◌∷◌, ◌++◌, codes, false, decimal, nat_lt, if◌then◌else◌, ◌==◌}
use Rattle.std.proofs.Common.{zero, suc}
use Rattle.std.specs.Fmt.{digits}
use Rattle.std.specs.List.{flat_map, zip, enumerate_from}
use Rattle.lisa_engine.specs.Text.{newline}
use Rattle.lisa_engine.specs.declared.parts.Item.{Item}

-- what stands for the item at a place: one printable byte for the first 94 items, and two for the others
abbrev pub item_code : ℕ → List ℕ
item_code place = if nat_lt place 94 then (33 + place) ∷ [] else (33 + place % 94) ∷ (33 + place / 94) ∷ []

abbrev pub declaration_line : ℕ × Item → List ℕ
declaration_line (place, item) = codes "$var reg " ++ (decimal item.width ++ (codes " " ++ (item_code place ++ (codes " " ++ (item.name ++ codes " $end\n")))))

abbrev pub declarations_text : List Item → List ℕ
declarations_text items = codes "$timescale 1 ns $end\n$scope module machine $end\n" ++ (flat_map declaration_line (enumerate_from 0 items) ++ codes "$upscope $end\n$enddefinitions $end\n")

abbrev pub binary : ℕ → List ℕ
binary value = digits 2 false value

-- a value of one bit is its digit and the code; a wider one is `b`, its digits, a blank and the code
abbrev pub value_change : ℕ → ℕ → ℕ → List ℕ
value_change width place value =
    if width == 1 then binary value ++ (item_code place ++ newline)
    else codes "b" ++ (binary value ++ (codes " " ++ (item_code place ++ newline)))

abbrev pub value_line : Item × (ℕ × ℕ) → List ℕ
value_line (item, (place, value)) = value_change item.width place value

abbrev pub value_lines : List Item → List ℕ → List ℕ
value_lines items values = flat_map value_line (zip items (enumerate_from 0 values))

-- a line where the value changed
abbrev pub changed_line : ℕ → ℕ → ℕ → ℕ → List ℕ
changed_line width place before now = if before == now then [] else value_change width place now

abbrev pub changed_value : Item × (ℕ × (ℕ × ℕ)) → List ℕ
changed_value (item, (place, (before, now))) = changed_line item.width place before now

abbrev pub changed_values : List Item → List ℕ → List ℕ → List ℕ
changed_values items before now = flat_map changed_value (zip items (enumerate_from 0 (zip before now)))

abbrev pub time_line : ℕ → List ℕ
time_line time = codes "#" ++ (decimal time ++ newline)

abbrev pub first_values : List Item → List ℕ → List ℕ
first_values items values = time_line 0 ++ (codes "$dumpvars\n" ++ (value_lines items values ++ codes "$end\n"))

-- what each of n edges changed, where `values k` are the items' values after k edges
abbrev pub edges_text : List Item → (ℕ → List ℕ) → ℕ → List ℕ
edges_text items values zero = []
edges_text items values (suc n) = edges_text items values n ++ (time_line (suc n) ++ changed_values items (values n) (values (suc n)))

-- the declarations, all values after no edge, and then what each of n edges changed
abbrev pub vcd_text : List Item → (ℕ → List ℕ) → ℕ → List ℕ
vcd_text items values n = declarations_text items ++ (first_values items (values 0) ++ edges_text items values n)
