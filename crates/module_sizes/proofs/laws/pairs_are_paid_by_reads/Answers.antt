use Rattle.module_sizes.proofs.Pairs.{pairs_low}
use Rattle.module_sizes.proofs.laws.pairs_are_paid_by_reads.Goals as goal

pub returns : goal.returns
returns c p most moves writes few = pairs_low p most moves writes few
