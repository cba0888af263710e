use Rattle.behavior_plans.proofs.Keeping.{acts_keep}
use Rattle.behavior_plans.proofs.laws.runs_keep_types.Goals as goal

pub returns : goal.returns
returns c = acts_keep
