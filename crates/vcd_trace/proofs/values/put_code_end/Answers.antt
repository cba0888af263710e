use Rattle.lisa_io.proofs.Known.{puts_then, puts_stop, puts_exit}
use Rattle.vcd_trace.proofs.values.put_code_end.Goals as goal

pub returns-in_err-put_code : goal.returns-in_err-put_code
returns-in_err-put_code g c = puts_exit _ _ c.from_residual.ensures.1 (puts_stop _ c.in_err-put_code.ensures)

pub returns : goal.returns
returns g c = puts_then c.in_ok-put_code.ensures c.put_all.ensures
