use Rattle.std.proofs.Common.{arith, ◌-◌}
use Rattle.lisa_activation.proofs.Stages.{one_stage, all_done}
use Rattle.lisa_activation.proofs.columns.finish_words.Goals as goal

pub loop-stage-preserved : goal.loop-stage-preserved
loop-stage-preserved c =
    one_stage c.args.standing.now c.loop-stage.standing c.args.own.now c.args.entered.now c.args.held c.args.flushed c.loop-stage.stage (c.loop-stage.stage - 1) (c.loop-stage.stage - 1 - 1) c.staying-stayed.result c.moving-moved.result
    (omega arith) (omega arith) (omega arith) c.staying-stayed.ensures c.moving-moved.ensures c.loop-stage.invariant

pub returns : goal.returns
returns c =
    all_done c.args.standing.now c.loop-stage.standing c.args.own.now c.args.entered.now c.args.held c.args.flushed c.loop-stage.stage c.staying.result
    (omega arith) c.staying.ensures c.loop-stage.invariant
