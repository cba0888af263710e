use Rattle.std.proofs.Common.{codes}
use Rattle.lisa_io.proofs.Known.{puts_then, puts_stop, puts_exit}
use Rattle.refusal_lines.proofs.lines.put_quoted.Goals as goal

pub returns-in_err-put_all-2 : goal.returns-in_err-put_all-2
returns-in_err-put_all-2 g c =
    puts_exit _ _ c.from_residual-in_err-put_all-2.ensures.1 (puts_then c.in_ok-put_all.ensures (puts_stop (codes "\"") c.in_err-put_all-2.ensures))

pub returns : goal.returns
returns g c = puts_then c.in_ok-put_all.ensures (puts_then c.in_ok-put_all-2.ensures c.put_all-3.ensures)
