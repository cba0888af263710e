-- The root is among the occurrences that are left.
use Rattle.std.proofs.Common.{◌≡◌, drop}
use Rattle.lisa_meaning.specs.activation_trees.Items.{root_stage}
use Rattle.state_items.proofs.counting.root_stage.Given as goal

abbrev pub invariant-loop-occurrence : goal.invariant-loop-occurrence
invariant-loop-occurrence g l = root_stage (g.N.Names.tree l.names) (drop l.occurrence-index l.occurrences) ≡ root_stage (g.N.Names.tree l.names) l.occurrences
