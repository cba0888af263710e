use Rattle.std.proofs.Common.{arith}
use Rattle.verilog_clock.proofs.Meanings.{marks_fit}
use Rattle.verilog_clock.proofs.compile.marks.Goals as goal

pub overflow_add-marks : goal.overflow_add-marks
overflow_add-marks c = omega (arith, c.each.invariant, marks_fit c.each.place c.args.width c.args.times c.requires.some c.each-test.true c.requires.small)
