use Rattle.std.proofs.Common.{sym}
use Rattle.behavior_plans.specs.Acts.{ActTree, loop_tree, act_tree}
use Rattle.behavior_plans.specs.Effects.{loop_turn, act_effect, act_writes}
use Rattle.behavior_plans.specs.Stores.{holdings_of}
use Rattle.behavior_plans.proofs.Blocks.{of_block}
use Rattle.behavior_plans.proofs.Loops.{leaves_as, act_left, turn_left}
use Rattle.behavior_plans.proofs.running.+running.Goals as goal

pub run-returns-in-Block : goal.run-returns-in-Block
run-returns-in-Block t c =
    leaves_as
    (sym (of_block (λ (a : ActTree). act_effect a (holdings_of c.args.store.now)) c.args.act.now c.in-Block.all c.as_slice.result.now c.in-Block.is c.as_slice.ensures.value))
    (sym (of_block act_writes c.args.act.now c.in-Block.all c.as_slice.result.now c.in-Block.is c.as_slice.ensures.value))
    c.run_all.ensures

pub run_all-loop-act-preserved : goal.run_all-loop-act-preserved
run_all-loop-act-preserved t c =
    act_left c.args.all.now c.loop-act.act-index c.act-item.result c.args.store.now c.loop-act.store c.run.new.store _ _ c.loop-act-test.true c.act-item.is c.loop-act.invariant c.run.ensures

pub run_turns-turns-preserved : goal.run_turns-turns-preserved
run_turns-turns-preserved t c =
    turn_left (loop_turn (loop_tree c.args.head) (act_effect (act_tree c.args.body.now))) c.args.head.bounds c.turns-turns.result c.turns.turn (act_writes (act_tree c.args.body.now))
    c.args.store.now c.turns.store c.run_turn.new.store _ c.turns-test.true c.turns.invariant c.run_turn.ensures
