use Rattle.std.specs.Prelude.{◌++◌, decimal}
use Rattle.lisa_engine.specs.Text.{newline}
use Rattle.lisa_io.proofs.Known.{puts_then, puts_stop, puts_exit}
use Rattle.lisa_debug.proofs.tell.put_list_line.Goals as goal

pub returns-in_err-put_all-2 : goal.returns-in_err-put_all-2
returns-in_err-put_all-2 g c =
    puts_exit _ _ c.from_residual-in_err-put_all-2.ensures.1
    (puts_then (rw c.as_bytes.ensures at c.in_ok-put_all.ensures) (puts_stop (decimal c.args.item.now.width ++ newline) c.in_err-put_all-2.ensures))

pub returns-in_err-put_decimal : goal.returns-in_err-put_decimal
returns-in_err-put_decimal g c =
    puts_exit _ _ c.from_residual-in_err-put_decimal.ensures.1
    (puts_then (rw c.as_bytes.ensures at c.in_ok-put_all.ensures) (puts_then c.in_ok-put_all-2.ensures (puts_stop newline c.in_err-put_decimal.ensures)))

pub returns : goal.returns
returns g c =
    puts_then (rw c.as_bytes.ensures at c.in_ok-put_all.ensures) (puts_then c.in_ok-put_all-2.ensures (puts_then c.in_ok-put_decimal.ensures c.put_all-3.ensures))
