use Rattle.std.proofs.Common.{arith}
use Rattle.text_lines.proofs.Parts.{length-lines-le}
use Rattle.code_lines.proofs.counts.read_lines.Goals as goal

pub read_source-requires : goal.read_source-requires
read_source-requires c = let l = length-lines-le c.args.bytes.now in omega (arith, l, c.requires)
