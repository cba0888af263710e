use Rattle.pipeline_time.proofs.Disjoint.{disjoint}
use Rattle.pipeline_time.proofs.laws.due_are_disjoint.Goals as goal

pub returns : goal.returns
returns g c core sound = disjoint core sound
