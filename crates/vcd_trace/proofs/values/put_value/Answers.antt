use Rattle.lisa_io.proofs.Known.{puts_then, puts_stop, puts_exit}
use Rattle.vcd_trace.proofs.ValueLines.{narrow}
use Rattle.vcd_trace.proofs.EdgeTexts.{puts_over}
use Rattle.vcd_trace.proofs.values.put_value.Goals as goal

pub returns-in_err-put_binary : goal.returns-in_err-put_binary
returns-in_err-put_binary g c = puts_over (narrow c.args.width c.args.place c.args.value c.if-width-ne1.false) (puts_exit _ _ c.from_residual.ensures.1 (puts_stop _ c.in_err-put_binary.ensures))

pub returns : goal.returns
returns g c = puts_over (narrow c.args.width c.args.place c.args.value c.if-width-ne1.false) (puts_then c.in_ok-put_binary.ensures c.put_code_end.ensures)
