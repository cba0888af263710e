use Rattle.std.proofs.Common.{◌≡◌, ◌+◌, ◌++◌, length}
use Rattle.hex_files.specs.HexText.{pieces, data_lines}
use Rattle.hex_files.proofs.hex_printer.put_data.Given as goal

abbrev pub invariant-records : goal.invariant-records
invariant-records l =
    (l.out.items ++ data_lines l.upper l.address (pieces 16 l.rest) ≡ l.fn.out.items ++ data_lines 0 0 (pieces 16 l.bytes)) × (l.address + length l.rest ≡ length l.bytes)

abbrev pub decreases-records : goal.decreases-records
decreases-records l = length l.rest
