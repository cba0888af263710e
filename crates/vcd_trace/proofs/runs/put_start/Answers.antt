use Rattle.lisa_io.proofs.Known.{puts_then, puts_stop, puts_exit}
use Rattle.vcd_trace.proofs.runs.put_start.Goals as goal

pub returns-in_err-put_declarations : goal.returns-in_err-put_declarations
returns-in_err-put_declarations g c = puts_exit _ _ c.from_residual.ensures.1 (puts_stop _ (rw c.items.ensures at c.in_err-put_declarations.ensures))

pub returns : goal.returns
returns g c = puts_then (rw c.items.ensures at c.in_ok-put_declarations.ensures) c.put_first_values.ensures
