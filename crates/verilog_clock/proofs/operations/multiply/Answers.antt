use Rattle.lisa_words.proofs.Reduced.{masked}
use Rattle.verilog_clock.proofs.operations.multiply.Goals as goal

pub returns : goal.returns
returns c = masked _ _ _ c.args.length.most c.args.length.ones
