use Rattle.std.proofs.Common.{arith}
use Rattle.lisa_activation.proofs.Places.{due_first, due_later}
use Rattle.lisa_activation.proofs.columns.column.Column.due.Goals as goal

pub returns-then-stage-eq0 : goal.returns-then-stage-eq0
returns-then-stage-eq0 c bit = due_first c.args.self.now c.args.stage bit (omega arith)

pub returns-else-stage-eq0 : goal.returns-else-stage-eq0
returns-else-stage-eq0 c bit = due_later c.args.self.now c.args.stage bit (λ e. omega arith)
