use Rattle.std.proofs.Common.{arith}
use Rattle.step_pieces.proofs.Rested.{set_value, set_rests}
use Rattle.step_pieces.proofs.laws.temps_hold.Goals as goal

pub returns-clause-holds : goal.returns-clause-holds
returns-clause-holds c p before pins temp e now h = set_value p before pins temp e now h

pub returns-clause-rests : goal.returns-clause-rests
returns-clause-rests c p before pins temp e now = set_rests p before pins temp temp e now (omega arith)
