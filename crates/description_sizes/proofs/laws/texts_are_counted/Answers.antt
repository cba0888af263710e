use Rattle.description_sizes.proofs.Sums.{are_counted}
use Rattle.description_sizes.proofs.laws.texts_are_counted.Goals as goal

pub returns : goal.returns
returns c = are_counted
