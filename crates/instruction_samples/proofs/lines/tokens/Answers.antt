use Rattle.std.proofs.Common.{arith}
use Rattle.text_lines.proofs.Parts.{length-lines-le}
use Rattle.instruction_samples.proofs.lines.tokens.Goals as goal

pub read_source-requires : goal.read_source-requires
read_source-requires c = omega (arith, length-lines-le c.args.line.now)
