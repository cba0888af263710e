use Rattle.std.proofs.Common.{◌∙◌}
use Rattle.verilog_size_checks.proofs.LengthLaws.{capped_two}
use Rattle.verilog_size_checks.proofs.lengths.two_width.Goals as goal

pub returns : goal.returns
returns c = λ x y e g. c.exact_two.ensures ∙ capped_two c.args.operator c.args.a c.args.b x y e g
