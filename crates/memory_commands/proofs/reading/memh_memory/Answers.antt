use Rattle.memory_commands.proofs.Spelled.{memh_read, memh_unread}
use Rattle.memory_commands.proofs.reading.memh_memory.Goals as goal

pub returns-in-Ok : goal.returns-in-Ok
returns-in-Ok c = memh_read c.args.array.now c.args.bytes.now c.in-Ok.memory c.in-Ok.ensures

pub returns-in-Err : goal.returns-in-Err
returns-in-Err c = rw c.unread_memh.ensures (memh_unread c.args.array.now c.args.bytes.now c.in-Err.fault c.in-Err.ensures)
