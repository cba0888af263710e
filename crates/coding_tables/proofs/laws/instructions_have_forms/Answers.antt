use Rattle.instruction_trees.specs.Trees.{IsBelow, form}
use Rattle.instruction_trees.proofs.Relabelled.{fits_relabel}
use Rattle.coding_tables.specs.Codings.{coding_table}
use Rattle.coding_tables.specs.Instructions.{instruction_items}
use Rattle.coding_tables.proofs.Heights.{are_listed, listed_fit, listed_once}
use Rattle.coding_tables.proofs.laws.instructions_have_forms.Goals as goal

pub returns-clause-all : goal.returns-clause-all
returns-clause-all c d acyclic t fits = are_listed d acyclic (form t) (fits_relabel (λ _. tt) (coding_table d) IsBelow t (instruction_items d) fits)

pub returns-clause-fit : goal.returns-clause-fit
returns-clause-fit c d f listed = listed_fit d f listed

pub returns-clause-once : goal.returns-clause-once
returns-clause-once c d distinct = listed_once d distinct
