use Rattle.lisa_io.proofs.Known.{puts_then}
use Rattle.refusal_lines.proofs.lines.put_word.Goals as goal

pub returns : goal.returns
returns g c = puts_then c.in_ok-put_all.ensures (rw c.hex-count.ensures.digits at c.put_all-2.ensures)
