use Rattle.lisa_activation.proofs.Agree.{finish_agrees}
use Rattle.lisa_activation.proofs.laws.finish_is_next_bit.Goals as goal

pub returns : goal.returns
returns g c core = finish_agrees core
