-- Reading a memory from an Intel HEX file.
use Rattle.std.specs.Prelude.{ℕ, ◌+◌, ◌*◌, ◌^◌, max, Bool, true, List, [], ◌∷◌, length, map, take, get_or, reverse, Option, Some, None, option_map, option_and_then, option_to_list, slice_get, Result, Ok, Err, nat_lt, nat_le, not, ◌==◌, ◌&&◌, ◌||◌, if◌then◌else◌}
use Rattle.std.specs.List.{flat_map, list_any, slice_index}
use Rattle.std.specs.Char.{digit_value, is_digit}
use Rattle.std.specs.Str.Lines.{lines}
use Rattle.lisa_engine.specs.Memory.{Memory}
use Rattle.lisa_engine.specs.declared.parts.ArrayItem.{ArrayItem}
use Rattle.hex_files.specs.declared.faults.HexFault.{HexFault}
use Rattle.hex_files.specs.declared.faults.HexFault.TheVariants.{BadRecord, BadSum, RecordType, AfterEnd, PastEnd, NoEnd, CellRange}
use Rattle.hex_files.specs.Arrays.{with_cells}
use Rattle.hex_files.specs.Before.{with_before, unless}
use Rattle.hex_files.specs.Maps.{Write, or_else, values_of, laid}
use Rattle.hex_files.specs.HexRecord.{HexRecord}
use Rattle.hex_files.specs.HexText.{byte_count, pieces, complement}

infixl 10 ◌>>=◌
abbrev pub ◌>>=◌ : {A B : Type 0} → Result A HexFault → (A → Result B HexFault) → Result B HexFault
(Ok x) >>= f = f x
(Err fault) >>= f = Err fault

-- ---- what a line says

-- the byte that two hexadecimal digits of either case write
abbrev pub byte_of : ℕ → ℕ → Option ℕ
byte_of high low = if is_digit high 16 && is_digit low 16 then Some (16 * digit_value high + digit_value low) else None

-- the bytes that digits in pairs write
unfoldable pub bytes_of : List ℕ → Option (List ℕ)
bytes_of [] = Some []
bytes_of (high ∷ []) = None
bytes_of (high ∷ low ∷ digits) = option_and_then (λ byte. option_map (λ bytes. byte ∷ bytes) (bytes_of digits)) (byte_of high low)

-- `:` and digits in pairs
abbrev pub line_bytes : List ℕ → Option (List ℕ)
line_bytes [] = None
line_bytes (b ∷ digits) = if b == 58 then bytes_of digits else None

-- the bytes of a record, whose number the first one tells: that of the data, the address, the type, the data and one more
unfoldable pub record_of : List ℕ → Option HexRecord
record_of (count ∷ upper ∷ lower ∷ kind ∷ rest) =
    if length rest == count + 1 then Some (record {
      address = 256 * upper + lower;
      kind = kind;
      content = take count rest;
      kept = slice_index rest count;
      expected = complement (count ∷ upper ∷ lower ∷ kind ∷ take count rest);
    })
    else None
record_of _ = None

-- whether a record of its type may have so many bytes of data; those of type 00 don't pass the 16-bit address 65,535
abbrev pub is_sized : HexRecord → Bool
is_sized r =
    if r.kind == 0 then nat_le (r.address + length r.content) 65536
    else (if r.kind == 1 then length r.content == 0
    else (if r.kind == 2 || r.kind == 4 then length r.content == 2
    else (if r.kind == 3 || r.kind == 5 then length r.content == 4
    else true)))

-- what is wrong with a record in a line
abbrev pub record_fault : ℕ → HexRecord → Option HexFault
record_fault line r =
    if not (is_sized r) then Some (BadRecord line)
    else (if not (r.kept == r.expected) then Some (BadSum line r.kept r.expected)
    else (if nat_lt 5 r.kind then Some (RecordType line r.kind) else None))

-- ---- records behind others

-- a record of data at a base has a byte past this size
abbrev pub is_past : ℕ → ℕ → HexRecord → Bool
is_past size base r = r.kind == 0 && (nat_lt 0 (length r.content) && nat_lt size (base + r.address + length r.content))

-- the bytes that a record gives at a base
abbrev pub given_by : ℕ → HexRecord → List Write
given_by base r = if r.kind == 0 then laid (base + r.address) r.content else []

-- the number that two bytes are, the upper one first
abbrev pub two_bytes : List ℕ → ℕ
two_bytes (upper ∷ lower ∷ more) = 256 * upper + lower
two_bytes _ = 0

-- the base that a record sets, if it does
abbrev pub base_set : HexRecord → List ℕ
base_set r =
    if r.kind == 2 then 16 * two_bytes r.content ∷ []
    else (if r.kind == 4 then 65536 * two_bytes r.content ∷ [] else [])

-- the base behind records: as the last of them that sets one says, 0 where none does
abbrev pub base_at : List HexRecord → ℕ
base_at before = get_or (reverse (flat_map base_set before)) 0 0

abbrev pub is_end : HexRecord → Bool
is_end r = r.kind == 1

-- what is wrong with the place of a record behind others, in a memory of so many bytes
abbrev pub place_fault : ℕ → List HexRecord → ℕ → HexRecord → Option HexFault
place_fault size before line r =
    if list_any is_end before then Some (AfterEnd line)
    else (if is_past size (base_at before) r then Some (PastEnd line (max (base_at before + r.address) size) size) else None)

-- ---- lines

-- the record that a line is, if it is one
abbrev pub record_in : List ℕ → Option HexRecord
record_in text = option_and_then record_of (line_bytes text)

-- the records that lines are, in their order
abbrev pub records_in : List (List ℕ) → List HexRecord
records_in texts = flat_map (λ text. option_to_list (record_in text)) texts

-- the fault where the line is this record or none
abbrev pub fault_in : ℕ → List HexRecord → ℕ → Option HexRecord → Option HexFault
fault_in size before line None = Some (BadRecord line)
fault_in size before line (Some r) = or_else (record_fault line r) (place_fault size before line r)

-- What is wrong with a line of this number behind records: the fault with the least number. An empty line has none.
abbrev pub line_fault : ℕ → List HexRecord → ℕ → List ℕ → Option HexFault
line_fault size before line text = if length text == 0 then None else fault_in size before line (record_in text)

-- the fault of a line behind others, if it has one
abbrev pub faults_at : ℕ → List (List ℕ) × List ℕ → List HexFault
faults_at size (before, text) = option_to_list (line_fault size (records_in before) (length before + 1) text)

abbrev pub end_fault : List HexRecord → Option HexFault
end_fault rs = if list_any is_end rs then None else Some NoEnd

-- the fault of the first line that has one, or else that there is no end record
abbrev pub fault_of : ℕ → List (List ℕ) → Option HexFault
fault_of size texts = or_else (slice_get (flat_map (faults_at size) (with_before texts)) 0) (end_fault (records_in texts))

-- the bytes of a record behind others
abbrev pub given_at : List HexRecord × HexRecord → List Write
given_at (before, r) = given_by (base_at before) r

-- the bytes that lines give, record by record, to a memory of so many bytes
abbrev pub writes_in : ℕ → List (List ℕ) → Result (List Write) HexFault
writes_in size texts = unless (fault_of size texts) (flat_map given_at (with_before (records_in texts)))

-- how many bytes the array has
abbrev pub size_of : ArrayItem → ℕ
size_of array = byte_count array.width * array.depth

-- The bytes that a file gives, from base 0 on. Lines end at line feeds; a carriage return before one is dropped, and the last line may
-- lack its line feed.
abbrev pub hex_writes : ArrayItem → List ℕ → Result (List Write) HexFault
hex_writes array bytes = writes_in (size_of array) (lines bytes)

-- ---- cells

-- the number whose lowest bytes these are, the lowest first
unfoldable pub little : List ℕ → ℕ
little [] = 0
little (b ∷ bs) = b + 256 * little bs

-- the cells of a width that the bytes from address 0 on are
abbrev pub cells_of : ℕ → List ℕ → List ℕ
cells_of width bytes = map little (pieces (byte_count width) bytes)

-- the first cell, counted from an index, that doesn't fit the width
unfoldable pub first_wide : ℕ → ℕ → List ℕ → Option HexFault
first_wide width index [] = None
first_wide width index (cell ∷ cells) = if nat_lt cell (2 ^ width) then first_wide width (index + 1) cells else Some (CellRange index cell width)

abbrev pub filled : ArrayItem → List ℕ → Result Memory HexFault
filled array cells = unless (first_wide array.width 0 cells) (with_cells array cells)

-- the memory that the bytes spell for the array, or their first fault
abbrev pub hex_of : ArrayItem → List ℕ → Result Memory HexFault
hex_of array bytes = hex_writes array bytes >>= λ ws. filled array (cells_of array.width (values_of ws))
