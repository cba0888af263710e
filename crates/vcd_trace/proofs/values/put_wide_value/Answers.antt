use Rattle.std.proofs.Common.{◌++◌}
use Rattle.std.specs.Prelude.{codes}
use Rattle.vcd_trace.specs.VcdText.{item_code}
use Rattle.lisa_io.proofs.Known.{puts_then, puts_stop, puts_exit}
use Rattle.vcd_trace.proofs.values.put_wide_value.Goals as goal

pub returns-in_err-put_all : goal.returns-in_err-put_all
returns-in_err-put_all g c = puts_exit _ _ c.from_residual.ensures.1 (puts_stop _ c.in_err-put_all.ensures)

pub returns-in_err-put_binary : goal.returns-in_err-put_binary
returns-in_err-put_binary g c = puts_exit _ _ c.from_residual-in_err-put_binary.ensures.1 (puts_then c.in_ok-put_all.ensures (puts_stop (codes " " ++ (item_code c.args.place ++ codes "\n")) c.in_err-put_binary.ensures))

pub returns-in_err-put_all-2 : goal.returns-in_err-put_all-2
returns-in_err-put_all-2 g c = puts_exit _ _ c.from_residual-in_err-put_all-2.ensures.1 (puts_then c.in_ok-put_all.ensures (puts_then c.in_ok-put_binary.ensures (puts_stop (item_code c.args.place ++ codes "\n") c.in_err-put_all-2.ensures)))

pub returns : goal.returns
returns g c = puts_then c.in_ok-put_all.ensures (puts_then c.in_ok-put_binary.ensures (puts_then c.in_ok-put_all-2.ensures c.put_code_end.ensures))
