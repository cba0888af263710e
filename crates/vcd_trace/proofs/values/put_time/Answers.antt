use Rattle.std.specs.Prelude.{codes}
use Rattle.lisa_io.proofs.Known.{puts_then, puts_stop, puts_exit}
use Rattle.vcd_trace.proofs.values.put_time.Goals as goal

pub returns-in_err-put_all : goal.returns-in_err-put_all
returns-in_err-put_all g c = puts_exit _ _ c.from_residual.ensures.1 (puts_stop _ c.in_err-put_all.ensures)

pub returns-in_err-put_decimal : goal.returns-in_err-put_decimal
returns-in_err-put_decimal g c = puts_exit _ _ c.from_residual-in_err-put_decimal.ensures.1 (puts_then c.in_ok-put_all.ensures (puts_stop (codes "\n") c.in_err-put_decimal.ensures))

pub returns : goal.returns
returns g c = puts_then c.in_ok-put_all.ensures (puts_then c.in_ok-put_decimal.ensures c.put_all-2.ensures)
