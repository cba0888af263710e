use Rattle.std.proofs.Common.{◌∙◌}
use Rattle.verilog_size_checks.proofs.LengthLaws.{capped_max}
use Rattle.verilog_size_checks.proofs.lengths.larger.Goals as goal

pub returns : goal.returns
returns c = λ x y e g. c.max.ensures ∙ capped_max c.args.a c.args.b x y e g
