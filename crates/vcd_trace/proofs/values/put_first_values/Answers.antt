use Rattle.std.proofs.Common.{◌++◌}
use Rattle.std.specs.Prelude.{codes}
use Rattle.vcd_trace.specs.VcdText.{value_lines}
use Rattle.lisa_io.proofs.Known.{puts_then, puts_stop, puts_exit}
use Rattle.vcd_trace.proofs.values.put_first_values.Goals as goal

pub returns-in_err-put_time : goal.returns-in_err-put_time
returns-in_err-put_time g c = puts_exit _ _ c.from_residual.ensures.1 (puts_stop _ c.in_err-put_time.ensures)

pub returns-in_err-put_all : goal.returns-in_err-put_all
returns-in_err-put_all g c = puts_exit _ _ c.from_residual-in_err-put_all.ensures.1 (puts_then c.in_ok-put_time.ensures (puts_stop (value_lines (g.E.Engine.machine c.args.engine.now).items (g.E.Engine.present c.args.engine.now).items ++ codes "$end\n") c.in_err-put_all.ensures))

pub returns-in_err-put_values : goal.returns-in_err-put_values
returns-in_err-put_values g c = puts_exit _ _ c.from_residual-in_err-put_values.ensures.1 (puts_then c.in_ok-put_time.ensures (puts_then c.in_ok-put_all.ensures (puts_stop (codes "$end\n") c.in_err-put_values.ensures)))

pub returns : goal.returns
returns g c = puts_then c.in_ok-put_time.ensures (puts_then c.in_ok-put_all.ensures (puts_then c.in_ok-put_values.ensures c.put_all-2.ensures))
