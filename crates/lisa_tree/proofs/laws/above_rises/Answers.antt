use Rattle.lisa_tree.proofs.Rising.{rises}
use Rattle.lisa_tree.proofs.laws.above_rises.Goals as goal

pub returns : goal.returns
returns c = rises
