use Rattle.std.proofs.Common.{◌∙◌}
use Rattle.verilog_size_checks.proofs.LengthLaws.{capped_sum}
use Rattle.verilog_size_checks.proofs.lengths.together.Goals as goal

pub returns : goal.returns
returns c = λ x y e g. c.saturating_add.ensures ∙ capped_sum c.args.a c.args.b x y e g
