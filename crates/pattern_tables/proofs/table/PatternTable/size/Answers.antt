use Rattle.std.proofs.Common.{arith}
use Rattle.pattern_tables.proofs.Decoding.{size_of}
use Rattle.pattern_tables.proofs.table.PatternTable.size.Goals as goal

pub returns : goal.returns
returns c = let size = size_of c.args.self.now in omega arith
