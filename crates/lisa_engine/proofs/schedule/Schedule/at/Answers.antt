use Rattle.std.proofs.Common.{ap, ◌∙◌, length, take}
use Rattle.lisa_engine.specs.PinValues.{after_lines}
use Rattle.lisa_engine.proofs.Played.{values_at}
use Rattle.lisa_engine.proofs.schedule.Schedule.at.Goals as goal

pub returns : goal.returns
returns c =
    c.play.ensures.values ∙ ap (λ n. after_lines n (take c.play.result c.args.self.now)) c.fill.ensures.len
    ∙ values_at (length c.args.into.now) c.args.self.now c.args.edge c.play.result c.play.ensures.place
