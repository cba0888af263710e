use Rattle.lisa_forms.proofs.Overlapping.{trees_share}
use Rattle.lisa_forms.proofs.decoding.overlaps_are_of_trees.Goals as goal

pub returns : goal.returns
returns c = trees_share
