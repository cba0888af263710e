use Rattle.std.proofs.Common.{◌≡◌, length}
use Rattle.graph_paths.specs.Paths.{targets}
use Rattle.text_counts.specs.Alike.{AreAlike}
use Rattle.text_counts.proofs.alike.alike_references.Given as goal

abbrev pub invariant-loop-number : goal.invariant-loop-number
invariant-loop-number g l = record {
  count : length l.alike.items ≡ l.number;
  alike : AreAlike (g.N.Names.tree l.names) (targets l.meanings) l.alike.items;
}
