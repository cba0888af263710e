use Rattle.verilog_size_checks.proofs.LengthLaws.{one_length}
use Rattle.verilog_size_checks.proofs.lengths.one_width.Goals as goal

pub returns-in-Negate : goal.returns-in-Negate
returns-in-Negate c = λ widths e is. one_length c.args.one c.args.a widths e c.in-Negate.is
