use Rattle.lisa_eval.proofs.Assigned.{names_assigned}
use Rattle.lisa_eval.proofs.laws.names_are_assigned.Goals as goal

pub returns : goal.returns
returns c = names_assigned
