use Rattle.std.proofs.Common.{◌≡◌, ◌+◌, ◌≤◌, length}
use Rattle.hex_files.specs.MemhReading.{words_from, memh_of}
use Rattle.hex_files.specs.MemhMachine.{writes_from}
use Rattle.hex_files.specs.MemhGives.{with_rest}
use Rattle.hex_files.proofs.memh_reader.read_cells.Given as goal

abbrev pub invariant-words : goal.invariant-words
invariant-words l =
    (with_rest l.memory l.cells.items (writes_from l.memory l.next (words_from l.at l.rest)) ≡ memh_of l.memory l.bytes) × (l.at + length l.rest ≤ length l.bytes)

abbrev pub decreases-words : goal.decreases-words
decreases-words l = length l.rest
