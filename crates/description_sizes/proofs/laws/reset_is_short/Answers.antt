use Rattle.description_sizes.proofs.Limited.{reset_short}
use Rattle.description_sizes.proofs.laws.reset_is_short.Goals as goal

pub returns : goal.returns
returns c = reset_short
