use Rattle.lisa_words.proofs.Reduced.{low_bits}
use Rattle.verilog_clock.proofs.lengths.Length.cut.Goals as goal

pub returns : goal.returns
returns c = low_bits _ _ _ c.args.self.ones
