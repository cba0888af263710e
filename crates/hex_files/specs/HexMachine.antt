-- Lines of an Intel HEX file one behind the other, as a reader goes through them: the base that is in force, or none behind the end record.
use Rattle.std.specs.Prelude.{ℕ, ◌+◌, ◌*◌, max, List, [], ◌∷◌, ◌++◌, length, Option, Some, None, Result, Ok, Err, ◌==◌, if◌then◌else◌}
use Rattle.hex_files.specs.declared.faults.HexFault.{HexFault}
use Rattle.hex_files.specs.declared.faults.HexFault.TheVariants.{BadRecord, AfterEnd, PastEnd, NoEnd}
use Rattle.hex_files.specs.Before.{unless}
use Rattle.hex_files.specs.Maps.{Write}
use Rattle.hex_files.specs.HexRecord.{HexRecord}
use Rattle.hex_files.specs.HexReading.{◌>>=◌, record_in, record_fault, is_past, given_by, two_bytes}

abbrev pub checked_record : ℕ → Option HexRecord → Result HexRecord HexFault
checked_record line None = Err (BadRecord line)
checked_record line (Some r) = unless (record_fault line r) r

-- the record that a line is, or its fault
unfoldable pub record_at : ℕ → List ℕ → Result HexRecord HexFault
record_at line text = checked_record line (record_in text)

-- the base behind a record, and none behind the end record
abbrev pub base_behind : ℕ → HexRecord → Option ℕ
base_behind base r =
    if r.kind == 1 then None
    else (if r.kind == 2 then Some (16 * two_bytes r.content)
    else (if r.kind == 4 then Some (65536 * two_bytes r.content)
    else Some base))

abbrev pub Step : Type 0
Step = List Write × Option ℕ

abbrev pub meant : ℕ → ℕ → Option ℕ → HexRecord → Result Step HexFault
meant size line None r = Err (AfterEnd line)
meant size line (Some base) r =
    if is_past size base r then Err (PastEnd line (max (base + r.address) size) size)
    else Ok (given_by base r, base_behind base r)

-- What a line of this number gives for a memory of so many bytes, where this base is in force, and the base behind it; or its
-- fault. An empty line is skipped.
unfoldable pub step_of : ℕ → ℕ → Option ℕ → List ℕ → Result Step HexFault
step_of size line base text = if length text == 0 then Ok ([], base) else record_at line text >>= meant size line base

abbrev pub and_more : List Write → Result (List Write) HexFault → Result (List Write) HexFault
and_more ws (Err fault) = Err fault
and_more ws (Ok more) = Ok (ws ++ more)

abbrev pub at_end : Option ℕ → Result (List Write) HexFault
at_end None = Ok []
at_end (Some base) = Err NoEnd

-- the bytes that the lines from this number on give, or the first fault
unfoldable pub writes_from : ℕ → ℕ → Option ℕ → List (List ℕ) → Result (List Write) HexFault
writes_from size line base [] = at_end base
writes_from size line base (text ∷ texts) = step_of size line base text >>= λ x. and_more x.0 (writes_from size (line + 1) x.1 texts)
