-- The text of a memory for `$readmemh`.
use Rattle.std.specs.Prelude.{ℕ, zero, suc, ◌+◌, ◌/◌, ◌%◌, false, List, [], ◌∷◌, ◌++◌}
use Rattle.std.specs.List.{flat_map}
use Rattle.std.specs.Fmt.{digit_glyph}
use Rattle.lisa_engine.specs.Memory.{Memory}

-- so many of a number's lowest hexadecimal digits, in lower case
unfoldable pub fixed_digits : ℕ → ℕ → List ℕ
fixed_digits zero value = []
fixed_digits (suc count) value = fixed_digits count (value / 16) ++ digit_glyph false (value % 16) ∷ []

-- how many hexadecimal digits a width needs
abbrev pub digit_count : ℕ → ℕ
digit_count width = (width + 3) / 4

-- a cell's line
abbrev pub cell_line : ℕ → ℕ → List ℕ
cell_line width cell = fixed_digits (digit_count width) cell ++ 10 ∷ []

-- each cell in as many digits as its width needs, one to a line
abbrev pub memh_text : Memory → List ℕ
memh_text memory = flat_map (cell_line memory.width) memory.cells
