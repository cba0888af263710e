use Rattle.instruction_trees.proofs.Placing.{places_inside, values_within, values_fit}
use Rattle.instruction_trees.proofs.laws.fields_are_placed.Goals as goal

pub returns-clause-inside : goal.returns-clause-inside
returns-clause-inside c table items t = places_inside table t items

pub returns-clause-within : goal.returns-clause-within
returns-clause-within c table items t fits = values_within table t items fits

pub returns-clause-fits : goal.returns-clause-fits
returns-clause-fits c table items t fits within = values_fit table t items fits within
