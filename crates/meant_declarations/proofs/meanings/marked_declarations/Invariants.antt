use Rattle.std.proofs.Common.{◌≡◌, ◌<◌, ◌&&◌, ℕ, length}
use Rattle.lisa_tree.specs.Declarations.{what_at}
use Rattle.graph_paths.specs.Paths.{saw}
use Rattle.meant_declarations.specs.Walks.{is_declaration}
use Rattle.meant_declarations.proofs.meanings.marked_declarations.Given as goal

abbrev pub invariant-loop-entry : goal.invariant-loop-entry
invariant-loop-entry g l = record {
  count : length l.starts.items ≡ l.entry;
  starts : (i : ℕ) → i < l.entry → saw l.starts.items i ≡ (saw l.marked i && is_declaration (what_at (g.N.Names.tree l.names) i));
}
