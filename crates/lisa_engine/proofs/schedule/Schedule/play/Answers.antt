use Rattle.std.proofs.Common.{arith, ◌≡◌, ap, length}
use Rattle.lisa_engine.proofs.Played.{stop_here}
use Rattle.lisa_engine.proofs.schedule.Schedule.play.Goals as goal

pub returns-then-line-edge-clause-place : goal.returns-then-line-edge-clause-place
returns-then-line-edge-clause-place c =
    let count : c.len-place-end.result ≡ length c.args.self.now = omega (arith, c.len-place-end.ensures, c.self.inside.lines.ok.0, ap length c.self.view_is) in
    stop_here c.args.self.now c.args.edge c.loop-place.place c.index-line.result.now c.requires.playable.rising (omega (arith, count, c.loop-place-test.true))
    (rw c.self.view_is at c.index-line.ensures) (omega (arith, c.if-line-edge.true, ap (λ l. l.edge) c.line.view_is)) c.loop-place.invariant.1
