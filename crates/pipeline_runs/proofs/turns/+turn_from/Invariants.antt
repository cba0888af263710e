use Rattle.std.proofs.Common.{◌-◌, length}
use Rattle.lisa_activation.specs.Queued.{first_above}
use Rattle.pipeline_runs.proofs.turns.+turn_from.Given as goal

abbrev pub decreases-turn_from : goal.decreases-turn_from
decreases-turn_from g l = length l.plan.now.occurrences.items - first_above l.after
