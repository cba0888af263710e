use Rattle.lisa_io.proofs.Known.{puts_then, puts_stop, puts_exit}
use Rattle.description_commands.proofs.counts.put_counts.Goals as goal

pub returns-in_err-put_count : goal.returns-in_err-put_count
returns-in_err-put_count g c = puts_exit _ _ c.from_residual.ensures.1 (puts_stop _ c.in_err-put_count.ensures)

pub returns-in_err-put_count-2 : goal.returns-in_err-put_count-2
returns-in_err-put_count-2 g c =
    puts_exit _ _ c.from_residual-in_err-put_count-2.ensures.1 (puts_then c.in_ok-put_count.ensures (puts_stop _ c.in_err-put_count-2.ensures))

pub returns-in_err-put_count-3 : goal.returns-in_err-put_count-3
returns-in_err-put_count-3 g c =
    puts_exit _ _ c.from_residual-in_err-put_count-3.ensures.1
    (puts_then c.in_ok-put_count.ensures (puts_then c.in_ok-put_count-2.ensures (puts_stop _ c.in_err-put_count-3.ensures)))

pub returns : goal.returns
returns g c = puts_then c.in_ok-put_count.ensures (puts_then c.in_ok-put_count-2.ensures (puts_then c.in_ok-put_count-3.ensures c.put_count-4.ensures))
