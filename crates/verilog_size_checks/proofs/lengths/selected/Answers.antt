use Rattle.std.proofs.Common.{arith}
use Rattle.verilog_size_checks.specs.Sought.{capped}
use Rattle.verilog_size_checks.proofs.lengths.selected.Goals as goal

pub returns : goal.returns
unfolding capped
returns c = omega (arith, c.saturating_add.ensures, c.saturating_sub.ensures)
