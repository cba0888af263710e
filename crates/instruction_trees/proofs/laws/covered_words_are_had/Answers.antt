use Rattle.instruction_trees.proofs.FormWords.{covered_word, covered_tree}
use Rattle.instruction_trees.proofs.Trees.{form_covers}
use Rattle.instruction_trees.proofs.Covering.{words_cover}
use Rattle.instruction_trees.proofs.laws.covered_words_are_had.Goals as goal

pub returns-clause-words : goal.returns-clause-words
returns-clause-words c = covered_word

pub returns-clause-tree : goal.returns-clause-tree
returns-clause-tree c table items f t fits own covers = covered_tree table items f t fits covers

pub returns-clause-own : goal.returns-clause-own
returns-clause-own c table items t = form_covers table t items

pub returns-clause-covers : goal.returns-clause-covers
returns-clause-covers c = words_cover
