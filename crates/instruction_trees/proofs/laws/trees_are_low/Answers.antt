use Rattle.instruction_trees.proofs.Listing.{low_enough}
use Rattle.instruction_trees.proofs.laws.trees_are_low.Goals as goal

pub returns : goal.returns
returns c table rank ranked bound items below f fits = low_enough table rank ranked bound f items below fits
