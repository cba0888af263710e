use Rattle.std.proofs.Common.{◌≡◌, ◌+◌, length}
use Rattle.std.specs.Str.Lines.{lines}
use Rattle.hex_files.specs.HexReading.{writes_in}
use Rattle.hex_files.specs.HexMachine.{writes_from}
use Rattle.hex_files.specs.HexGives.{IsSmall, bytes_with, values_in}
use Rattle.hex_files.proofs.hex_reader.read_bytes.Given as goal

abbrev pub invariant-lines : goal.invariant-lines
invariant-lines l =
    (bytes_with l.values.items (writes_from l.size (l.line + 1) l.base (lines l.rest)) ≡ values_in (writes_in l.size (lines l.bytes)))
    × (l.line + length (lines l.rest) ≡ length (lines l.bytes)) × IsSmall l.base

abbrev pub decreases-lines : goal.decreases-lines
decreases-lines l = length l.rest
