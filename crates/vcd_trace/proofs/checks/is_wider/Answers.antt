use Rattle.lisa_engine.proofs.Widths.{shifted_out, all_fit}
use Rattle.vcd_trace.proofs.checks.is_wider.Goals as goal

pub returns-then-width-lt64 : goal.returns-then-width-lt64
returns-then-width-lt64 c = shifted_out c.args.value c.args.width

pub returns-else-width-lt64 : goal.returns-else-width-lt64
returns-else-width-lt64 c = all_fit c.args.value c.args.width c.ranges.value.fits c.if-width-lt64.false
