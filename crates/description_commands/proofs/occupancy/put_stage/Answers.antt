use Rattle.lisa_io.proofs.Known.{puts_then, puts_stop, puts_exit}
use Rattle.description_commands.proofs.occupancy.put_stage.Goals as goal

pub returns-in_err-put_all : goal.returns-in_err-put_all
returns-in_err-put_all g c = puts_exit _ _ c.from_residual.ensures.1 (puts_stop _ c.in_err-put_all.ensures)

pub returns-in_err-put_labelled : goal.returns-in_err-put_labelled
returns-in_err-put_labelled g c = puts_exit _ _ c.from_residual-in_err-put_labelled.ensures.1 (puts_then c.in_ok-put_all.ensures (puts_stop _ c.in_err-put_labelled.ensures))

pub returns-in_err-put_labelled-2 : goal.returns-in_err-put_labelled-2
returns-in_err-put_labelled-2 g c =
    puts_exit _ _ c.from_residual-in_err-put_labelled-2.ensures.1 (puts_then c.in_ok-put_all.ensures (puts_then c.in_ok-put_labelled.ensures (puts_stop _ c.in_err-put_labelled-2.ensures)))

pub returns-in_err-put_labelled-3 : goal.returns-in_err-put_labelled-3
returns-in_err-put_labelled-3 g c =
    puts_exit _ _ c.from_residual-in_err-put_labelled-3.ensures.1
    (puts_then c.in_ok-put_all.ensures (puts_then c.in_ok-put_labelled.ensures (puts_then c.in_ok-put_labelled-2.ensures (puts_stop _ c.in_err-put_labelled-3.ensures))))

pub returns : goal.returns
returns g c =
    puts_then c.in_ok-put_all.ensures (puts_then c.in_ok-put_labelled.ensures (puts_then c.in_ok-put_labelled-2.ensures (puts_then c.in_ok-put_labelled-3.ensures c.put_all-2.ensures)))
