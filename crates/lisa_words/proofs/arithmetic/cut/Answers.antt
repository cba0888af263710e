use Rattle.lisa_words.proofs.Reduced.{low_bits}
use Rattle.lisa_words.proofs.arithmetic.cut.Goals as goal

pub returns-clause-bits : goal.returns-clause-bits
returns-clause-bits c = low_bits _ _ _ c.mask.ensures
