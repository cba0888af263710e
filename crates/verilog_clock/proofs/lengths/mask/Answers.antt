use Rattle.lisa_words.proofs.Reduced.{ones}
use Rattle.verilog_clock.proofs.lengths.mask.Goals as goal

pub returns : goal.returns
returns c = ones c.args.bits c.requires
