use Rattle.instruction_trees.proofs.FormWords.{overlap_iff}
use Rattle.instruction_trees.proofs.laws.overlaps_are_common_words.Goals as goal

pub returns : goal.returns
returns c = overlap_iff
