use Rattle.instruction_trees.specs.Trees.{IsBelow}
use Rattle.instruction_trees.proofs.Relabelled.{fits_relabel, bits_relabel, placed_relabel, plain_relabel, height_relabel}
use Rattle.instruction_trees.proofs.Trees.{sizes}
use Rattle.instruction_trees.proofs.laws.trees_are_as_their_forms.Goals as goal

pub returns-clause-fits : goal.returns-clause-fits
returns-clause-fits c table items t fits = fits_relabel (λ _. tt) table IsBelow t items fits

pub returns-clause-bits : goal.returns-clause-bits
returns-clause-bits c table items t = bits_relabel (λ _. tt) table t items

pub returns-clause-size : goal.returns-clause-size
returns-clause-size c table items t = sizes table t items

pub returns-clause-places : goal.returns-clause-places
returns-clause-places c table items low t = placed_relabel (λ _. tt) table low t items

pub returns-clause-plain : goal.returns-clause-plain
returns-clause-plain c aliases t = plain_relabel (λ _. tt) aliases t

pub returns-clause-height : goal.returns-clause-height
returns-clause-height c t = height_relabel (λ _. tt) t
