use Rattle.lowered_resources.proofs.Forming.{formed}
use Rattle.lowered_resources.proofs.laws.resources_are_formed.Goals as goal

pub returns : goal.returns
returns c d places p accepted first lasts are known o from scope is = formed d accepted places p first lasts are from known o scope is
