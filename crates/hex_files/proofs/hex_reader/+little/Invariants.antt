use Rattle.std.proofs.Common.{length}
use Rattle.hex_files.proofs.hex_reader.+little.Given as goal

abbrev pub decreases-little : goal.decreases-little
decreases-little l = length l.bytes.now
