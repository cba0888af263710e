use Rattle.pipeline_time.proofs.Steps.{unchosen, same_level, other_level, one_branch}
use Rattle.pipeline_time.proofs.laws.clause_steps.Goals as goal

pub returns-clause-unchosen : goal.returns-clause-unchosen
returns-clause-unchosen g c core = unchosen core

pub returns-clause-same : goal.returns-clause-same
returns-clause-same g c core = same_level core

pub returns-clause-other : goal.returns-clause-other
returns-clause-other g c core = other_level core

pub returns-clause-branch : goal.returns-clause-branch
returns-clause-branch g c core = one_branch core
