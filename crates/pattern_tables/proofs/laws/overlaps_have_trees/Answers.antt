use Rattle.pattern_tables.proofs.Treed.{overlap_of_trees, one_plain_tree}
use Rattle.pattern_tables.proofs.laws.overlaps_have_trees.Goals as goal

pub returns-clause-found : goal.returns-clause-found
returns-clause-found c = overlap_of_trees

pub returns-clause-none : goal.returns-clause-none
returns-clause-none c = one_plain_tree
