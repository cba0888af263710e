use Rattle.std.proofs.Common.{◌+◌}
use Rattle.lisa_io.proofs.Known.{puts_exit, puts_early, puts_more}
use Rattle.vcd_trace.specs.Traces.{change_line}
use Rattle.vcd_trace.proofs.tracing.put_changes.Goals as goal

pub returns-in_err-put_change : goal.returns-in_err-put_change
returns-in_err-put_change g c =
    puts_exit _ _ c.from_residual.ensures.1
    (puts_early (change_line c.args.items.now) c.args.changes.now (c.loop-change.change-index + 1) _ _ _ _ _
    (puts_more (change_line c.args.items.now) c.args.changes.now c.loop-change.change-index (0, 0) _ _ _ _ _ _ _ _ c.loop-change-test.true c.loop-change.invariant c.in_err-put_change.ensures))

pub loop-change-preserved : goal.loop-change-preserved
loop-change-preserved g c =
    puts_more (change_line c.args.items.now) c.args.changes.now c.loop-change.change-index (0, 0) _ _ _ _ _ _ _ _ c.loop-change-test.true c.loop-change.invariant c.in_ok-put_change.ensures
