use Rattle.std.proofs.Common.{arith, ◌-◌}
use Rattle.lisa_activation.proofs.Coming.{begun, one_end, all_come}
use Rattle.lisa_activation.proofs.restores.restore.Goals as goal

pub loop-steps-init : goal.loop-steps-init
loop-steps-init g c = begun (g.S.Shows.shown c.args.shows.now) c.args.queues.now c.finish.new.self c.finish.ensures

pub loop-steps-preserved : goal.loop-steps-preserved
loop-steps-preserved g c =
    let e = c.enter_all.ensures in
    one_end (g.S.Shows.shown c.args.shows.now) c.args.queues.now c.loop-steps.queues c.enter_all.new.queues c.finish-in-loop-steps.new.self c.loop-steps.steps (c.loop-steps.steps - 1) (omega arith) c.requires
    (record { recorded = e.entered; same_first = e.first; same_standing = e.standing; tables = e.tables }) c.finish-in-loop-steps.ensures c.loop-steps.invariant

pub returns : goal.returns
returns g c = all_come (g.S.Shows.shown c.args.shows.now) c.args.queues.now c.loop-steps.queues c.loop-steps.steps (omega arith) c.requires c.loop-steps.invariant
