use Rattle.lisa_io.proofs.GatheredLemmas.{sent_on}
use Rattle.lisa_io.proofs.buffered.Buffered.send_some.Goals as goal

pub returns-clause-written : goal.returns-clause-written
returns-clause-written g c =
    sent_on (g.O.Sink.written c.args.self.now.inner) (g.O.Sink.written c.put.new.self) c.args.self.now.room.items c.args.self.now.sent c.args.self.now.filled c.in_ok-count.count
    c.args.self.now.in_order (rw c.deref.ensures.value at c.in_ok-count.ensures.bytes)
