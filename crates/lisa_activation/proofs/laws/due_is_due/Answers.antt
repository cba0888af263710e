use Rattle.lisa_activation.proofs.Agree.{due_agrees}
use Rattle.lisa_activation.proofs.laws.due_is_due.Goals as goal

pub returns : goal.returns
returns g c core = due_agrees core
