use Rattle.lisa_meaning.proofs.Onward.{past_inside}
use Rattle.lisa_meaning.proofs.laws.past_is_inside.Goals as goal

pub returns : goal.returns
returns c = past_inside
