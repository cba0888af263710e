use Rattle.std.proofs.Common.{rules}
use Rattle.verilog_clock.proofs.Numbers.{complement_any}
use Rattle.verilog_clock.proofs.operations.complement.Goals as goal

pub returns : goal.returns
returns c = complement_any c.args.length.bits c.args.a _ c.args.length.most (search rules) c.args.length.ones
