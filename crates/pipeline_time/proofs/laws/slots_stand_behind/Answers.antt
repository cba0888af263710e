use Rattle.pipeline_time.proofs.Behind.{stands_behind}
use Rattle.pipeline_time.proofs.laws.slots_stand_behind.Goals as goal

pub returns : goal.returns
returns g c core first entries level e = stands_behind core first entries level e
