use Rattle.activation_trees.proofs.Listed.{bits_end}
use Rattle.std.proofs.Common.{arith}
use Rattle.activation_trees.proofs.listing.count_all_bits.Goals as goal

pub returns : goal.returns
returns c = λ d. bits_end d c.args.occurrences.now c.args.stages.now c.loop-place.place c.loop-place.count _ (omega arith) c.loop-place.invariant.few (c.loop-place.invariant.sum d)
