use Rattle.std.proofs.Common.{sym, ◌∙◌}
use Rattle.lisa_activation.proofs.Stages.{moved, not_moved}
use Rattle.lisa_activation.proofs.columns.moving.Goals as goal

pub returns-then-is_open : goal.returns-then-is_open
returns-then-is_open c bit within =
    moved c.args.word c.args.own c.args.entered c.args.held c.args.flushed c.args.stage bit c.ranges.own.fits within (sym c.is_open.ensures ∙ c.if-is_open.true)

pub returns-else-is_open : goal.returns-else-is_open
returns-else-is_open c bit within =
    not_moved c.args.word c.args.own c.args.entered c.args.held c.args.flushed c.args.stage bit (sym c.is_open.ensures ∙ c.if-is_open.false)
