use Rattle.lisa_behav_reader.proofs.PlaceLaws.{one_list}
use Rattle.lisa_behav_reader.proofs.laws.one_behavior.Goals as goal

pub returns : goal.returns
returns c = one_list
