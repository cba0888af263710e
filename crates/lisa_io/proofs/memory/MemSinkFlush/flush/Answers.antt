use Rattle.std.proofs.Common.{Some, take}
use Rattle.lisa_io.specs.Gathered.{front_of_itself}
use Rattle.lisa_io.proofs.memory.MemSinkFlush.flush.Goals as goal

pub returns-clause-grows : goal.returns-clause-grows
returns-clause-grows c = front_of_itself (Some (take c.args.self.now.len c.args.self.now.room.items))
