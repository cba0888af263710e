use Rattle.std.proofs.Common.{◌-◌, ◌≡◌, ◌≤◌}
use Rattle.std.specs.Io.KnownBytes.{Keeps}
use Rattle.lisa_io.specs.Contents.{IsFront}
use Rattle.lisa_io.specs.Gathered.{gathered}
use Rattle.lisa_io.proofs.buffered.Buffered.send_all.Given as goal

abbrev pub invariant-loop-self : goal.invariant-loop-self
invariant-loop-self g l =
    Keeps (gathered (g.O.Sink.written l.initial.self.inner) l.initial.self.room.items l.initial.self.sent l.initial.self.filled)
    (gathered (g.O.Sink.written l.self.inner) l.self.room.items l.self.sent l.self.filled)
    × IsFront (g.O.Sink.written l.initial.self.inner) (g.O.Sink.written l.self.inner)
    × (l.self.room ≡ l.initial.self.room)
    × (g.O.Sink.faults l.initial.self.inner ≤ g.O.Sink.faults l.self.inner)

abbrev pub decreases-loop-self : goal.decreases-loop-self
decreases-loop-self g l = l.self.filled - l.self.sent
