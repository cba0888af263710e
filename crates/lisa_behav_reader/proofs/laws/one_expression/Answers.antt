use Rattle.lisa_behav_reader.proofs.PlaceLaws.{one_tree}
use Rattle.lisa_behav_reader.proofs.laws.one_expression.Goals as goal

pub returns : goal.returns
returns c = one_tree
