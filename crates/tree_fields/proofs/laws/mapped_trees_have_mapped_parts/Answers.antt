use Rattle.tree_fields.proofs.Read.{values_mapped, children_mapped}
use Rattle.tree_fields.proofs.laws.mapped_trees_have_mapped_parts.Goals as goal

pub returns-clause-values : goal.returns-clause-values
returns-clause-values c = λ f t. values_mapped f t

pub returns-clause-children : goal.returns-clause-children
returns-clause-children c = λ f t. children_mapped f t
