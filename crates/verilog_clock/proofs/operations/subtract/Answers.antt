use Rattle.std.proofs.Common.{rules}
use Rattle.verilog_clock.proofs.Numbers.{difference_any}
use Rattle.verilog_clock.proofs.operations.subtract.Goals as goal

pub returns : goal.returns
returns c = difference_any c.args.length.bits c.args.a c.args.b _ c.args.length.most (search rules) c.args.length.ones
