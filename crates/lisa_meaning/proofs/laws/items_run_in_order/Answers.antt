use Rattle.pipeline_time.proofs.Steps.{unchosen, same_level, other_level, one_branch}
use Rattle.lisa_meaning.specs.Cores.{core_of}
use Rattle.lisa_meaning.proofs.laws.items_run_in_order.Goals as goal

pub returns-clause-unchosen : goal.returns-clause-unchosen
returns-clause-unchosen c d = unchosen (core_of d)

pub returns-clause-same : goal.returns-clause-same
returns-clause-same c d = same_level (core_of d)

pub returns-clause-other : goal.returns-clause-other
returns-clause-other c d = other_level (core_of d)

pub returns-clause-branch : goal.returns-clause-branch
returns-clause-branch c d = one_branch (core_of d)
