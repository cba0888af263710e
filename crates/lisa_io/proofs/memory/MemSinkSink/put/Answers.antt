use Rattle.std.proofs.Common.{arith}
use Rattle.std.proofs.lemmas.List.{with_items_is}
use Rattle.lisa_io.proofs.Taken.{written}
use Rattle.lisa_io.proofs.memory.MemSinkSink.put.Goals as goal

pub returns-clause-bytes : goal.returns-clause-bytes
returns-clause-bytes c =
    written _ _ _ _ _ _ _ c.deref_mut.ensures.value (with_items_is c.args.self.now.room c.write_at.new.room (omega (arith, c.write_at.auto.room, c.deref_mut.ensures.len)))
    (omega (arith, c.min.ensures, c.min-count.ensures)) c.write_at.ensures
