use Rattle.lisa_engine.proofs.Widths.{shifted_out, all_fit}
use Rattle.lisa_engine.proofs.schedule.is_wider.Goals as goal

pub returns-then-width-lt64 : goal.returns-then-width-lt64
returns-then-width-lt64 c = shifted_out _ _

pub returns-else-width-lt64 : goal.returns-else-width-lt64
returns-else-width-lt64 c = all_fit _ _ c.ranges.value.fits c.if-width-lt64.false
