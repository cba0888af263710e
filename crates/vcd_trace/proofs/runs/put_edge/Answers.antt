use Rattle.lisa_io.proofs.Known.{puts_then, puts_stop, puts_exit}
use Rattle.vcd_trace.proofs.runs.put_edge.Goals as goal

pub returns-in_err-put_time-clause-puts : goal.returns-in_err-put_time-clause-puts
returns-in_err-put_time-clause-puts g c = puts_exit _ _ c.from_residual.ensures.1 (puts_stop _ c.in_err-put_time.ensures)

pub returns-clause-puts : goal.returns-clause-puts
returns-clause-puts g c = puts_then c.in_ok-put_time.ensures c.put_changed_values.ensures.puts
