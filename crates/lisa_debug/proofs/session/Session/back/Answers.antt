use Rattle.std.proofs.Common.{◌+◌, ◌-◌, length, arith, refl}
use Rattle.lisa_debug.proofs.Steps.{came_more, came_at}
use Rattle.lisa_debug.proofs.session.Session.back.Goals as goal

pub loop-taken-init : goal.loop-taken-init
loop-taken-init g c = record { same = refl; live = c.requires.live; stands = omega arith }

pub take_back-requires-clause-live : goal.take_back-requires-clause-live
take_back-requires-clause-live g c = c.loop-taken.invariant.live

pub take_back-requires-clause-some : goal.take_back-requires-clause-some
take_back-requires-clause-some g c = omega (arith, c.loop-taken.invariant.stands, c.requires.limit)

pub loop-taken-preserved : goal.loop-taken-preserved
loop-taken-preserved g c =
    came_more (length c.args.self.now.journal.entries.items - (c.loop-taken.taken + 1)) c.loop-taken.invariant c.take_back.ensures (omega (arith, c.loop-taken.invariant.stands))

pub returns : goal.returns
returns g c = came_at (length c.args.self.now.journal.entries.items - c.args.count) c.loop-taken.invariant (omega arith)
