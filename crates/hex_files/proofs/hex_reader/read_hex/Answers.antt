use Rattle.std.proofs.Common.{arith}
use Rattle.hex_files.proofs.LineCounts.{lines_are_few}
use Rattle.hex_files.proofs.hex_reader.read_hex.Goals as goal

pub read_bytes-requires : goal.read_bytes-requires
read_bytes-requires c = omega (arith, lines_are_few c.args.bytes.now, c.requires.short)
