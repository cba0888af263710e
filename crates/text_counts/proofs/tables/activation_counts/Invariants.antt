use Rattle.std.proofs.Common.{◌≡◌, ◌<◌, ℕ, length}
use Rattle.least_fixed_points.specs.Settles.{entry}
use Rattle.lisa_tree.specs.Operations.{sections_at, activation_in}
use Rattle.text_counts.specs.Activations.{activation_nodes}
use Rattle.text_counts.proofs.tables.activation_counts.Given as goal

abbrev pub invariant-loop-operation : goal.invariant-loop-operation
invariant-loop-operation g l = record {
  count : length l.table.items ≡ l.operation;
  told : (o : ℕ) → o < l.operation → entry l.table.items o ≡ activation_nodes (entry l.expressions) (g.N.Names.tree l.names) o (activation_in (sections_at (g.N.Names.tree l.names) o));
}
