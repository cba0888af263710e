use Rattle.state_items.proofs.Limits.{limited}
use Rattle.state_items.proofs.laws.sizes_are_limited.Goals as goal

pub returns : goal.returns
returns c d has = limited d has
