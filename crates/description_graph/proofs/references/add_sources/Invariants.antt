use Rattle.std.proofs.Common.{◌≡◌, ◌||◌, ℕ, length}
use Rattle.graph_paths.specs.Paths.{is_in, targets}
use Rattle.description_graph.specs.Graph.{to_rows}
use Rattle.description_graph.proofs.references.add_sources.Given as goal

abbrev pub invariant-loop-entry : goal.invariant-loop-entry
invariant-loop-entry g l = record {
  count : length l.next.items ≡ length l.fn.next.items;
  added : (a b : ℕ) → is_in b (targets l.next.items a) ≡ (is_in b (targets l.fn.next.items a) || to_rows (g.N.Names.tree l.names) l.rows l.entry a b);
}
