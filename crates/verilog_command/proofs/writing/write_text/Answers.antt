use Rattle.std.proofs.Common.{refl}
use Rattle.lisa_outcomes.proofs.Writing.{ok_put, failed_put}
use Rattle.verilog_command.proofs.writing.write_text.Goals as goal

pub returns-in-Ok : goal.returns-in-Ok
returns-in-Ok g c = ok_put _ _ _ _ _ _ _ refl (rw c.in-Ok.is at c.put_all.ensures)

pub returns-in-Err : goal.returns-in-Err
returns-in-Err g c = failed_put _ _ _ _ _ _ _ refl (rw c.in-Err.is at c.put_all.ensures)
