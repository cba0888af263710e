use Rattle.module_sizes.proofs.Counted.{ends_few}
use Rattle.module_sizes.proofs.laws.ends_have_items.Goals as goal

pub returns : goal.returns
returns c d types declared has = ends_few d types declared has
