use Rattle.lisa_words.proofs.Reduced.{turned_round}
use Rattle.lisa_words.proofs.bitwise.not.Goals as goal

pub returns-clause-bits : goal.returns-clause-bits
returns-clause-bits c = turned_round _ _ _ c.args.a.at_most_64 c.args.a.fits c.mask.ensures
