use Rattle.std.proofs.Common.{◌≡◌, ℕ, drop}
use Rattle.lisa_tree.specs.Paths.{entry_node}
use Rattle.least_fixed_points.specs.Settles.{entry}
use Rattle.description_types.specs.Facts.{merged_from}
use Rattle.description_types.proofs.facts.merged_from.Given as goal

abbrev pub invariant-loop-number : goal.invariant-loop-number
invariant-loop-number g l =
    merged_from (g.F.Facts.fact l.facts).either (λ (k : ℕ). entry l.table (entry_node (g.N.Names.tree l.names) k)) l.so_far (drop l.number-index l.row)
    ≡ merged_from (g.F.Facts.fact l.facts).either (λ (k : ℕ). entry l.table (entry_node (g.N.Names.tree l.names) k)) l.fn.first l.row
