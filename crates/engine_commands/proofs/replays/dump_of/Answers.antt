use Rattle.engine_commands.proofs.Replayed.{undumped}
use Rattle.engine_commands.proofs.replays.dump_of.Goals as goal

pub returns-in-Err : goal.returns-in-Err
returns-in-Err c = rw c.unread.ensures (undumped c.args.bytes.now c.in-Err.fault c.in-Err.ensures)
