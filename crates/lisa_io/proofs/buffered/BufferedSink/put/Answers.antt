use Rattle.lisa_io.proofs.GatheredLemmas.{put_past}
use Rattle.lisa_io.proofs.buffered.BufferedSink.put.Goals as goal

pub returns-then-piece-len-clause-bytes : goal.returns-then-piece-len-clause-bytes
returns-then-piece-len-clause-bytes g c =
    put_past (g.O.Sink.written c.args.self.now.inner) (g.O.Sink.written c.send_all.new.self.inner) (g.O.Sink.written c.put.new.self)
    c.args.self.now.room.items c.send_all.new.self.room.items c.args.piece.now c.args.self.now.sent c.args.self.now.filled
    c.send_all.new.self.sent c.send_all.new.self.filled c.put.result c.in_ok-send_all.ensures.empty c.in_ok-send_all.ensures.written c.put.ensures.bytes
