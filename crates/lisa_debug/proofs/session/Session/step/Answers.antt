use Rattle.std.proofs.Common.{◌+◌, length, sym, arith, refl}
use Rattle.lisa_debug.proofs.Steps.{came_more, came_at, played_now, played_then}
use Rattle.lisa_debug.proofs.session.Session.step.Goals as goal

pub replay-next-requires : goal.replay-next-requires
replay-next-requires g c = c.requires.live

pub loop-made-init : goal.loop-made-init
loop-made-init g c = (
  came_at (length c.args.self.now.journal.entries.items + 0) c.replay-next.ensures.came (omega arith),
  played_then (length c.args.self.now.journal.entries.items + 0) refl (omega arith) c.replay-next.ensures.played,
)

pub make_edge-requires-clause-live : goal.make_edge-requires-clause-live
make_edge-requires-clause-live g c = c.loop-made.invariant.0.live

pub make_edge-requires-clause-limit : goal.make_edge-requires-clause-limit
make_edge-requires-clause-limit g c = omega (arith, c.loop-made.invariant.0.stands, c.requires.limit)

pub make_edge-requires-clause-played : goal.make_edge-requires-clause-played
make_edge-requires-clause-played g c =
    played_now (length c.loop-made.self.journal.entries.items) c.loop-made.invariant.0.same (sym c.loop-made.invariant.0.stands) c.loop-made.invariant.1

pub loop-made-preserved : goal.loop-made-preserved
loop-made-preserved g c = (
  came_more (length c.args.self.now.journal.entries.items + (c.loop-made.made + 1)) c.loop-made.invariant.0 c.in_ok-next.ensures.came (omega (arith, c.loop-made.invariant.0.stands)),
  played_then (length c.args.self.now.journal.entries.items + (c.loop-made.made + 1)) c.loop-made.invariant.0.same (omega (arith, c.loop-made.invariant.0.stands)) c.in_ok-next.ensures.played,
)

pub returns : goal.returns
returns g c = came_at (length c.args.self.now.journal.entries.items + c.args.count) c.loop-made.invariant.0 (omega arith)
