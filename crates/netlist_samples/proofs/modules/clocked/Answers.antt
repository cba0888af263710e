use Rattle.verilog_rules.proofs.Clockable.{accepted}
use Rattle.netlist_samples.proofs.modules.clocked.Goals as goal

pub returns-clause-clockable : goal.returns-clause-clockable
returns-clause-clockable c = accepted _ _ c.in_ok-whole.ensures.accepted
