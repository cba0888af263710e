use Rattle.item_promises.proofs.Wide.{limited}
use Rattle.item_promises.proofs.promises.sizes_are_limited.Goals as goal

pub returns : goal.returns
returns c = limited
