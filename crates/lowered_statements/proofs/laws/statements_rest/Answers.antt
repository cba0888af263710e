use Rattle.lowered_statements.proofs.Idle.{all_rest}
use Rattle.lowered_statements.proofs.laws.statements_rest.Goals as goal

pub returns : goal.returns
returns c ways p before pins are all scope guard from now low idle has lies = all_rest p before pins ways are all scope guard from now low idle has lies
