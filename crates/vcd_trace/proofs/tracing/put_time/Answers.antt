use Rattle.std.proofs.Common.{ap}
use Rattle.lisa_io.proofs.Known.{puts_then, puts_stop, puts_exit}
use Rattle.vcd_trace.specs.Traces.{time_text}
use Rattle.vcd_trace.proofs.EdgeTexts.{puts_over}
use Rattle.vcd_trace.proofs.tracing.put_time.Goals as goal

pub returns-in_err-put_time_line : goal.returns-in_err-put_time_line
returns-in_err-put_time_line g c = puts_over (ap (time_text c.args.items.now) c.time.view_is) (puts_exit _ _ c.from_residual.ensures.1 (puts_stop _ c.in_err-put_time_line.ensures))

pub returns : goal.returns
returns g c = puts_over (ap (time_text c.args.items.now) c.time.view_is) (puts_then c.in_ok-put_time_line.ensures (rw c.deref.ensures.value at c.put_changes.ensures))
