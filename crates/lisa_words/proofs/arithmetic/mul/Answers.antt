use Rattle.lisa_words.proofs.Reduced.{masked}
use Rattle.lisa_words.proofs.arithmetic.mul.Goals as goal

pub returns-clause-bits : goal.returns-clause-bits
returns-clause-bits c = masked _ _ _ c.args.a.at_most_64 c.mask.ensures
