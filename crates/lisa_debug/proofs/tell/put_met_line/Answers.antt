use Rattle.lisa_io.proofs.Known.{puts_then, puts_stop, puts_exit}
use Rattle.lisa_debug.specs.Answers.{met_text}
use Rattle.lisa_debug.proofs.tell.put_met_line.Goals as goal

pub returns-in_err-put_decimal : goal.returns-in_err-put_decimal
returns-in_err-put_decimal g c =
    puts_exit _ _ c.from_residual-in_err-put_decimal.ensures.1
    (puts_then c.in_ok-put_all.ensures (puts_stop (met_text c.args.met) c.in_err-put_decimal.ensures))

pub returns : goal.returns
returns g c = puts_then c.in_ok-put_all.ensures (puts_then c.in_ok-put_decimal.ensures c.put_met.ensures)
