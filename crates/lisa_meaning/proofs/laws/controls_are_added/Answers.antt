use Rattle.lisa_meaning.proofs.Added.{behave_adds}
use Rattle.lisa_meaning.proofs.laws.controls_are_added.Goals as goal

pub returns : goal.returns
returns c = behave_adds
