use Rattle.std.proofs.Common.{◌≡◌, length}
use Rattle.hex_files.specs.HexReading.{bytes_of}
use Rattle.hex_files.proofs.RecordLoops.{ahead}
use Rattle.hex_files.proofs.records.bytes_of.Given as goal

abbrev pub invariant-pairs : goal.invariant-pairs
invariant-pairs l = ahead l.bytes.items (bytes_of l.left) ≡ bytes_of l.digits

abbrev pub decreases-pairs : goal.decreases-pairs
decreases-pairs l = length l.left
