use Rattle.description_sizes.proofs.Limited.{within_limits}
use Rattle.description_sizes.proofs.laws.sizes_are_within_limits.Goals as goal

pub returns : goal.returns
returns c = within_limits
