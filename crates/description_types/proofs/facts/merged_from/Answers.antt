use Rattle.std.proofs.Common.{ℕ, ◌∙◌}
use Rattle.lisa_tree.specs.Paths.{entry_node}
use Rattle.least_fixed_points.specs.Settles.{entry}
use Rattle.description_types.proofs.Merging.{merged_step}
use Rattle.description_types.proofs.facts.merged_from.Goals as goal

pub loop-number-preserved : goal.loop-number-preserved
loop-number-preserved g c =
    merged_step (g.F.Facts.fact c.args.facts.now).either (λ (k : ℕ). entry c.args.table.now (entry_node (g.N.Names.tree c.args.names.now) k)) c.loop-number.so_far c.known_entry.result c.together-so_far.result
    c.args.row.now c.loop-number.number-index c.loop-number-test.true c.known_entry.ensures c.together-so_far.ensures
    ∙ c.loop-number.invariant
