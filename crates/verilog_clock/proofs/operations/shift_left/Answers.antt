use Rattle.std.proofs.Common.{arith}
use Rattle.lisa_words.proofs.Reduced.{masked}
use Rattle.verilog_clock.proofs.Numbers.{left_far}
use Rattle.verilog_clock.proofs.operations.shift_left.Goals as goal

pub returns-then-by-lt64 : goal.returns-then-by-lt64
returns-then-by-lt64 c = masked _ _ _ c.args.length.most c.args.length.ones

pub returns-else-by-lt64 : goal.returns-else-by-lt64
returns-else-by-lt64 c = left_far c.args.length.bits c.args.a c.args.by c.args.length.most (omega arith)
