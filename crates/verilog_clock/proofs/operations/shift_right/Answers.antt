use Rattle.std.proofs.Common.{arith, rules}
use Rattle.verilog_clock.proofs.Numbers.{right_near, right_far}
use Rattle.verilog_clock.proofs.operations.shift_right.Goals as goal

pub returns-then-by-lt64 : goal.returns-then-by-lt64
returns-then-by-lt64 c = right_near c.args.length.bits c.args.a c.args.by _ c.args.length.ones

pub returns-else-by-lt64 : goal.returns-else-by-lt64
returns-else-by-lt64 c = right_far c.args.length.bits c.args.a c.args.by (search rules) (omega arith)
