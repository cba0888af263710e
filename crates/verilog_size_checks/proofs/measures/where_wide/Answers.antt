use Rattle.verilog_size_checks.proofs.LengthLaws.{wide_above, wide_within}
use Rattle.verilog_size_checks.proofs.measures.where_wide.Goals as goal

pub returns-then-width-gt64-clause-told : goal.returns-then-width-gt64-clause-told
returns-then-width-gt64-clause-told c = λ x e. wide_above c.args.width x c.args.at c.if-width-gt64.true e

pub returns-else-width-gt64-clause-told : goal.returns-else-width-gt64-clause-told
returns-else-width-gt64-clause-told c = λ x e. wide_within c.args.width x c.args.at c.if-width-gt64.false e
