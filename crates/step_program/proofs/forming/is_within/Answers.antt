use Rattle.std.proofs.Common.{arith}
use Rattle.step_program.proofs.Powers.{within_64}
use Rattle.step_program.proofs.forming.is_within.Goals as goal

pub returns-then-width-ge64 : goal.returns-then-width-ge64
returns-then-width-ge64 c = within_64 c.args.value c.args.width c.if-width-ge64.true (omega arith)
