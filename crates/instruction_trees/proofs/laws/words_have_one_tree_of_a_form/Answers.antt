use Rattle.instruction_trees.proofs.Trees.{has_some}
use Rattle.instruction_trees.proofs.Weighed.{read_fits}
use Rattle.instruction_trees.proofs.FormWords.{word_iff, only_tree, read_is, read_values}
use Rattle.instruction_trees.proofs.laws.words_have_one_tree_of_a_form.Goals as goal

pub returns-clause-some : goal.returns-clause-some
returns-clause-some c = word_iff

pub returns-clause-only : goal.returns-clause-only
returns-clause-only c = only_tree

pub returns-clause-found : goal.returns-clause-found
returns-clause-found c table items f w fits has = has_some table w f items fits has

pub returns-clause-fits : goal.returns-clause-fits
returns-clause-fits c table items f w fits = read_fits table w 0 f items fits

pub returns-clause-form : goal.returns-clause-form
returns-clause-form c = read_is

pub returns-clause-values : goal.returns-clause-values
returns-clause-values c = read_values
