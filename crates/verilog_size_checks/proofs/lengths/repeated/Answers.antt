use Rattle.std.proofs.Common.{◌∙◌}
use Rattle.verilog_size_checks.proofs.LengthLaws.{capped_times}
use Rattle.verilog_size_checks.proofs.lengths.repeated.Goals as goal

pub returns : goal.returns
returns c = λ x e. c.saturating_mul.ensures ∙ capped_times c.args.times c.args.a x e
