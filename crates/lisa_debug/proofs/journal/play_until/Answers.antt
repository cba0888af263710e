use Rattle.std.proofs.Common.{ap, ◌∙◌, take}
use Rattle.lisa_engine.specs.PinValues.{after_lines}
use Rattle.lisa_debug.proofs.journal.play_until.Goals as goal

pub returns-clause-values : goal.returns-clause-values
returns-clause-values c = c.play.ensures.values ∙ ap (λ n. after_lines n (take c.play.result c.args.schedule.now)) c.fill.ensures.len
