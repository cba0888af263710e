-- The text of a memory as an Intel HEX file.
use Rattle.std.specs.Prelude.{ℕ, zero, suc, ◌+◌, ◌-◌, ◌*◌, ◌/◌, ◌%◌, true, List, [], ◌∷◌, ◌++◌, length, map, take, drop, sum, ◌==◌, if◌then◌else◌}
use Rattle.std.specs.List.{flat_map, range_with_len}
use Rattle.std.specs.Fmt.{digit_glyph}
use Rattle.lisa_engine.specs.Memory.{Memory}

-- how many bytes a cell of a width has
abbrev pub byte_count : ℕ → ℕ
byte_count width = (width + 7) / 8

-- so many of a number's lowest bytes, the lowest first
unfoldable pub low_bytes : ℕ → ℕ → List ℕ
low_bytes zero value = []
low_bytes (suc count) value = value % 256 ∷ low_bytes count (value / 256)

-- the bytes of all cells
abbrev pub memory_bytes : Memory → List ℕ
memory_bytes memory = flat_map (low_bytes (byte_count memory.width)) memory.cells

-- a list in pieces of a size, the last of which may be shorter
unfoldable pub pieces : ℕ → List ℕ → List (List ℕ)
pieces size xs = map (λ i. take size (drop (i * size) xs)) (range_with_len 0 ((length xs + (size - 1)) / size))

-- two upper-case digits
abbrev pub byte_digits : ℕ → List ℕ
byte_digits b = digit_glyph true (b / 16) ∷ digit_glyph true (b % 16) ∷ []

-- the two's complement of the sum of bytes: with it the sum is a multiple of 256
abbrev pub complement : List ℕ → ℕ
complement bytes = (256 - sum bytes % 256) % 256

-- the bytes of a record but its last: the number of data bytes, the 16-bit address, the type and the data
abbrev pub record_bytes : ℕ → ℕ → List ℕ → List ℕ
record_bytes address kind content = length content ∷ address / 256 ∷ address % 256 ∷ kind ∷ content

-- `:`, the bytes in digits, the complement of their sum, and the line's end
unfoldable pub record_line : ℕ → ℕ → List ℕ → List ℕ
record_line address kind content =
    let bytes = record_bytes address kind content in
    58 ∷ (flat_map byte_digits bytes ++ (byte_digits (complement bytes) ++ 10 ∷ []))

-- a record of type 04, where the upper 16 bits of the address change
abbrev pub upper_line : ℕ → ℕ → List ℕ
upper_line old new = if old == new then [] else record_line 0 4 (new / 256 ∷ new % 256 ∷ [])

-- the lines of data from an address on, where these upper 16 bits are in force
unfoldable pub data_lines : ℕ → ℕ → List (List ℕ) → List ℕ
data_lines upper address [] = []
data_lines upper address (content ∷ more) =
    upper_line upper (address / 65536) ++ (record_line (address % 65536) 0 content ++ data_lines (address / 65536) (address + length content) more)

-- records of 16 bytes of data, and the record that ends the file
abbrev pub hex_text : Memory → List ℕ
hex_text memory = data_lines 0 0 (pieces 16 (memory_bytes memory)) ++ record_line 0 1 []
