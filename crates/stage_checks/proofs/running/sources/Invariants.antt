use Rattle.std.proofs.Common.{◌≡◌, ℕ, length, nat_lt, ◌&&◌}
use Rattle.lisa_tree.specs.Operations.{own_stage}
use Rattle.lisa_tree.specs.Resources.{stages}
use Rattle.graph_paths.specs.Paths.{is_in, targets, saw}
use Rattle.stage_checks.specs.Graphs.{is_stage}
use Rattle.stage_checks.proofs.running.sources.Given as goal

abbrev pub invariant-loop-node : goal.invariant-loop-node
invariant-loop-node g l = record {
  count : length l.rows.items ≡ length (stages (g.N.Names.tree l.names));
  rows : (t b : ℕ) → is_in b (targets l.rows.items t) ≡ (nat_lt b l.node && (saw l.reached b && is_stage t (own_stage (g.N.Names.tree l.names) b)));
}
