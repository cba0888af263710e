use Rattle.instruction_trees.proofs.Listing.{forms_fit, all_forms, forms_distinct}
use Rattle.instruction_trees.proofs.laws.forms_are_listed.Goals as goal

pub returns-clause-fit : goal.returns-clause-fit
returns-clause-fit c = forms_fit

pub returns-clause-all : goal.returns-clause-all
returns-clause-all c = all_forms

pub returns-clause-once : goal.returns-clause-once
returns-clause-once c = forms_distinct
