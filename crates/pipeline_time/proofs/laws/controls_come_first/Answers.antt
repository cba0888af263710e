use Rattle.pipeline_time.proofs.Held.{turns_controls}
use Rattle.pipeline_time.proofs.laws.controls_come_first.Goals as goal

pub returns : goal.returns
returns g c core sound stands level later now above =
    let controls = turns_controls core sound stands level now in
    (controls.held later above, controls.flushed later above)
