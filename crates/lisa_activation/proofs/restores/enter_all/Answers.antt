use Rattle.std.proofs.Common.{arith}
use Rattle.lisa_activation.proofs.Coming.{none_recorded, one_recorded, all_recorded}
use Rattle.lisa_activation.proofs.restores.enter_all.Goals as goal

pub loop-occurrence-init : goal.loop-occurrence-init
loop-occurrence-init g c = none_recorded (g.S.Shows.shown c.args.shows.now) c.args.steps c.args.queues.now c.requires.entered

pub loop-occurrence-preserved : goal.loop-occurrence-preserved
loop-occurrence-preserved g c =
    one_recorded (g.S.Shows.shown c.args.shows.now) c.args.steps c.args.queues.now c.loop-occurrence.queues c.enter_one.new.queues c.loop-occurrence.occurrence c.enter_one.ensures.entered c.enter_one.ensures.first c.enter_one.ensures.standing c.enter_one.ensures.tables c.loop-occurrence.invariant

pub returns-clause-entered : goal.returns-clause-entered
returns-clause-entered g c =
    all_recorded (g.S.Shows.shown c.args.shows.now) c.args.steps c.args.queues.now c.loop-occurrence.queues c.loop-occurrence.occurrence (omega arith) c.loop-occurrence.invariant
