use Rattle.std.proofs.Common.{◌∙◌}
use Rattle.instruction_trees.proofs.Numbering.{tree_of_form, filled_form, filled_values, values_count}
use Rattle.instruction_trees.proofs.FormWords.{form_is}
use Rattle.instruction_trees.proofs.laws.trees_are_forms_with_values.Goals as goal

pub returns-clause-tree : goal.returns-clause-tree
returns-clause-tree c = tree_of_form

pub returns-clause-form : goal.returns-clause-form
returns-clause-form c f t = filled_form f t ∙ form_is t

pub returns-clause-values : goal.returns-clause-values
returns-clause-values c f t = filled_values f t

pub returns-clause-count : goal.returns-clause-count
returns-clause-count c = values_count
