use Rattle.instruction_trees.specs.Trees.{bits}
use Rattle.instruction_trees.proofs.FormWords.{pattern_has, word_below}
use Rattle.instruction_trees.proofs.Weighed.{word_of_values}
use Rattle.instruction_trees.proofs.laws.words_are_had.Goals as goal

pub returns-clause-has : goal.returns-clause-has
returns-clause-has c table items t = pattern_has (bits table t items)

pub returns-clause-below : goal.returns-clause-below
returns-clause-below c = word_below

pub returns-clause-sum : goal.returns-clause-sum
returns-clause-sum c table items t fits = word_of_values table t items fits
