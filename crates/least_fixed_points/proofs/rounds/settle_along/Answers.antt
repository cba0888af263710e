use Rattle.std.proofs.Common.{◌∙◌, ap, None, length}
use Rattle.std.proofs.lemmas.List.{length-replicate}
use Rattle.least_fixed_points.proofs.Entries.{nothing_sound, complete}
use Rattle.least_fixed_points.proofs.rounds.settle_along.Goals as goal

pub visit-requires-clause-count : goal.visit-requires-clause-count
visit-requires-clause-count g c = ap length c.in_ok-table.ensures ∙ length-replicate c.args.count None ∙ c.requires

pub visit-requires-clause-sound : goal.visit-requires-clause-sound
visit-requires-clause-sound g c = nothing_sound (g.R.Rule.step c.args.rule.now) _ c.args.count c.in_ok-table.ensures

pub returns-clause-exact : goal.returns-clause-exact
returns-clause-exact g c = λ a t. (c.round.ensures.sound.has a t, complete (g.R.Rule.step c.args.rule.now) (g.met.R.Rule.monotone c.args.rule.now) _ c.round.ensures.sound (c.round.ensures.closed c.rounds-test.false) a t)
