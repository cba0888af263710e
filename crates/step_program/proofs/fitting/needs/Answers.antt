use Rattle.std.proofs.Common.{arith}
use Rattle.step_program.proofs.Powers.{no_power}
use Rattle.step_program.proofs.fitting.needs.Goals as goal

pub returns-else-width-lt32 : goal.returns-else-width-lt32
returns-else-width-lt32 c = no_power c.args.depth c.args.width (omega arith) (omega arith)
