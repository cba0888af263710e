use Rattle.pipeline_runs.proofs.Ran.{what_is_due_runs}
use Rattle.pipeline_runs.proofs.seeing.what_is_due_runs.Goals as goal

pub returns : goal.returns
returns g c core sound = what_is_due_runs core sound
