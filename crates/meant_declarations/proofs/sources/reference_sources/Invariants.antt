use Rattle.std.proofs.Common.{◌≡◌, ◌<◌, ℕ, length}
use Rattle.graph_paths.specs.Paths.{targets}
use Rattle.meant_declarations.specs.Sources.{AreSome}
use Rattle.meant_declarations.specs.Declaring.{IsAround, AreNoted}
use Rattle.meant_declarations.proofs.sources.reference_sources.Given as goal

abbrev pub invariant-loop-entry : goal.invariant-loop-entry
invariant-loop-entry g l = record {
  count : length l.next.items ≡ l.entry;
  noted : AreNoted (g.N.Names.tree l.names) l.table;
  around : IsAround (g.N.Names.tree l.names) l.owner l.known.cover l.known.rest.items l.known.all;
  each : (i : ℕ) → i < l.entry → AreSome (g.N.Names.tree l.names) i (targets l.next.items i);
}
