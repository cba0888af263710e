use Rattle.lisa_forms.proofs.Chosen.{chosen_past}
use Rattle.lisa_forms.proofs.laws.what_is_chosen_is_past_the_root.Goals as goal

pub returns : goal.returns
returns c = chosen_past
