use Rattle.std.proofs.Common.{arith}
use Rattle.text_lines.proofs.Parts.{length-lines-le}
use Rattle.assembler_tests.proofs.sources.read.Goals as goal

pub read_source-requires : goal.read_source-requires
read_source-requires c = omega (arith, length-lines-le c.args.source.now)
