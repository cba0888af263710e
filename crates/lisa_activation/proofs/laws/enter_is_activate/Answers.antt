use Rattle.lisa_activation.proofs.Agree.{enter_agrees}
use Rattle.lisa_activation.proofs.laws.enter_is_activate.Goals as goal

pub returns : goal.returns
returns g c core = enter_agrees core
