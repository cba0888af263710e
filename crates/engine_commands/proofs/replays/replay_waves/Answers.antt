use Rattle.std.proofs.Common.{◌≡◌}
use Rattle.lisa_outcomes.specs.Outcomes.{Outcome, Finished}
use Rattle.lisa_outcomes.proofs.Stages.{passed_replies, stopped_replies}
use Rattle.lisa_outcomes.proofs.Writing.{written_replies}
use Rattle.vcd_trace.specs.Traces.{dump_trace}
use Rattle.vcd_trace.specs.Written.{Dump}
use Rattle.engine_commands.proofs.replays.replay_waves.Goals as goal

pub returns-in-Ok : goal.returns-in-Ok
returns-in-Ok g c =
    passed_replies {T = Unit {0}} (λ (vcd : Dump). vcd) _ _ (λ found (outcome : Outcome). outcome ≡ Finished (dump_trace found)) c.in-Ok.vcd _ _ _ _ _ c.in-Ok.ensures
    (written_replies _ _ _ _ _ _ c.put_replay.ensures)

pub returns-in-Err : goal.returns-in-Err
returns-in-Err g c =
    stopped_replies {T = Unit {0}} (λ (vcd : Dump). vcd) _ _ (λ found (outcome : Outcome). outcome ≡ Finished (dump_trace found)) c.in-Err.end _ _ c.in-Err.ensures
