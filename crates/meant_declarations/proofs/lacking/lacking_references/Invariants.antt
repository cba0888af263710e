use Rattle.std.proofs.Common.{◌≡◌, ◌<◌, ℕ, length}
use Rattle.graph_paths.specs.Paths.{saw}
use Rattle.meant_declarations.specs.Lacking.{lacks}
use Rattle.meant_declarations.proofs.lacking.lacking_references.Given as goal

abbrev pub invariant-loop-entry : goal.invariant-loop-entry
invariant-loop-entry g l = record {
  count : length l.lacking.items ≡ l.entry;
  each : (i : ℕ) → i < l.entry → saw l.lacking.items i ≡ lacks (g.N.Names.tree l.names) i;
}
