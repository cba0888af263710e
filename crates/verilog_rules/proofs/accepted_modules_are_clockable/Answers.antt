use Rattle.verilog_rules.proofs.Clockable.{accepted}
use Rattle.verilog_rules.proofs.accepted_modules_are_clockable.Goals as goal

pub returns : goal.returns
returns c = accepted
