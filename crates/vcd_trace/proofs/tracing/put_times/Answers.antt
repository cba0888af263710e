use Rattle.std.proofs.Common.{◌+◌}
use Rattle.lisa_io.proofs.Known.{puts_exit, puts_early}
use Rattle.vcd_trace.specs.Traces.{time_text}
use Rattle.vcd_trace.proofs.EdgeTexts.{puts_item}
use Rattle.vcd_trace.proofs.tracing.put_times.Goals as goal

pub returns-in_err-put_time : goal.returns-in_err-put_time
returns-in_err-put_time g c =
    puts_exit _ _ c.from_residual.ensures.1
    (puts_early (time_text c.args.items.now) c.args.times.now (c.loop-time.time-index + 1) _ _ _ _ _
    (puts_item (time_text c.args.items.now) c.args.times.now c.loop-time.time-index c.time-item.result _ _ _ _ _ _ _ _ c.loop-time-test.true c.time-item.is c.loop-time.invariant c.in_err-put_time.ensures))

pub loop-time-preserved : goal.loop-time-preserved
loop-time-preserved g c =
    puts_item (time_text c.args.items.now) c.args.times.now c.loop-time.time-index c.time-item.result _ _ _ _ _ _ _ _ c.loop-time-test.true c.time-item.is c.loop-time.invariant c.in_ok-put_time.ensures
