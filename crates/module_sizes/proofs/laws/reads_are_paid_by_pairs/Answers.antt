use Rattle.module_sizes.proofs.Arrays.{pairs_paid}
use Rattle.module_sizes.proofs.laws.reads_are_paid_by_pairs.Goals as goal

pub returns : goal.returns
returns c d price = pairs_paid d price
