use Rattle.lisa_io.proofs.Known.{puts_then, puts_stop, puts_exit}
use Rattle.description_commands.proofs.occupancy.put_labelled.Goals as goal

pub returns-in_err-put_all : goal.returns-in_err-put_all
returns-in_err-put_all g c = puts_exit _ _ c.from_residual.ensures.1 (puts_stop _ c.in_err-put_all.ensures)

pub returns : goal.returns
returns g c = puts_then c.in_ok-put_all.ensures (rw c.from.ensures at c.put_number.ensures)
