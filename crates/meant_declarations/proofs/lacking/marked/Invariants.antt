use Rattle.std.proofs.Common.{◌≡◌, ◌<◌, ℕ, length}
use Rattle.graph_paths.specs.Paths.{saw}
use Rattle.meant_declarations.specs.Declaring.{IsAround}
use Rattle.meant_declarations.specs.Lacking.{IsMarked}
use Rattle.meant_declarations.proofs.lacking.marked.Given as goal

abbrev pub invariant-loop-entry : goal.invariant-loop-entry
invariant-loop-entry g l = record {
  count : length l.marks.items ≡ l.entry;
  around : IsAround (g.N.Names.tree l.names) l.owner l.known.cover l.known.rest.items l.known.all;
  each : (i : ℕ) → i < l.entry → IsMarked (g.N.Names.tree l.names) i (saw l.marks.items i);
}
