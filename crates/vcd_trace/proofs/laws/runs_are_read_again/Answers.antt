use Rattle.vcd_trace.proofs.RunLaws.{spells}
use Rattle.vcd_trace.proofs.laws.runs_are_read_again.Goals as goal

pub returns : goal.returns
returns c items values n is = spells items values n is
