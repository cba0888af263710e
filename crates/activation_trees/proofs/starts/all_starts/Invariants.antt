use Rattle.std.proofs.Common.{◌≡◌, ◌<◌, ℕ, length}
use Rattle.activation_trees.specs.Starting.{row_at, starts}
use Rattle.activation_trees.proofs.starts.all_starts.Given as goal

abbrev pub invariant-loop-operation : goal.invariant-loop-operation
invariant-loop-operation g l = record {
  len : length l.rows.items ≡ l.operation;
  rows : (a : ℕ) → a < l.operation → row_at l.rows.items a ≡ starts (g.N.Names.tree l.names) a;
}
