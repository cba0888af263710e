use Rattle.std.proofs.Common.{ap}
use Rattle.lisa_outcomes.proofs.Writing.{ok_put, failed_put}
use Rattle.description_commands.specs.Checks.{counts_text}
use Rattle.description_commands.proofs.checks.write_counts.Goals as goal

pub returns-in-Ok : goal.returns-in-Ok
returns-in-Ok g c = ok_put _ _ _ _ _ _ _ (ap counts_text c.of.ensures) (rw c.in-Ok.is at c.put_counts.ensures)

pub returns-in-Err : goal.returns-in-Err
returns-in-Err g c = failed_put _ _ _ _ _ _ _ (ap counts_text c.of.ensures) (rw c.in-Err.is at c.put_counts.ensures)
