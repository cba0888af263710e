use Rattle.std.specs.Prelude.{codes}
use Rattle.lisa_io.proofs.Known.{puts_then, puts_stop, puts_exit}
use Rattle.vcd_trace.proofs.values.put_declarations.Goals as goal

pub returns-in_err-put_all : goal.returns-in_err-put_all
returns-in_err-put_all g c = puts_exit _ _ c.from_residual.ensures.1 (puts_stop _ c.in_err-put_all.ensures)

pub returns-in_err-put_declared_items : goal.returns-in_err-put_declared_items
returns-in_err-put_declared_items g c = puts_exit _ _ c.from_residual-in_err-put_declared_items.ensures.1 (puts_then c.in_ok-put_all.ensures (puts_stop (codes "$upscope $end\n$enddefinitions $end\n") c.in_err-put_declared_items.ensures))

pub returns : goal.returns
returns g c = puts_then c.in_ok-put_all.ensures (puts_then c.in_ok-put_declared_items.ensures c.put_all-2.ensures)
