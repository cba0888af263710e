use Rattle.std.proofs.Common.{◌+◌, arith}
use Rattle.lisa_io.proofs.Known.{puts_exit, puts_early}
use Rattle.lisa_engine.proofs.Lines.{places_more, places_whole}
use Rattle.description_commands.specs.Occupied.{counted_line}
use Rattle.description_commands.proofs.occupancy.put_stages.Goals as goal

pub returns-in_err-put_stage : goal.returns-in_err-put_stage
returns-in_err-put_stage g c =
    puts_exit _ _ c.from_residual.ensures.1
    (puts_early (counted_line c.args.counts.now) _ (c.loop-stage.stage + 1) _ _ _ _ _
    (places_more (counted_line c.args.counts.now) c.args.names.now c.loop-stage.stage c.index-names-stage.result _ _ _ _ _ _ _ _ c.loop-stage-test.true c.index-names-stage.is
    c.loop-stage.invariant (rw c.as_bytes.ensures at c.in_err-put_stage.ensures)))

pub loop-stage-preserved : goal.loop-stage-preserved
loop-stage-preserved g c =
    places_more (counted_line c.args.counts.now) c.args.names.now c.loop-stage.stage c.index-names-stage.result _ _ _ _ _ _ _ _ c.loop-stage-test.true c.index-names-stage.is
    c.loop-stage.invariant (rw c.as_bytes.ensures at c.in_ok-put_stage.ensures)

pub returns : goal.returns
returns g c = places_whole (counted_line c.args.counts.now) c.args.names.now c.loop-stage.stage _ _ _ _ _ (omega (arith, c.loop-stage-test.false)) c.loop-stage.invariant
