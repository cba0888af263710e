use Rattle.std.proofs.Common.{◌≡◌, ℕ, take, ◌&&◌, not}
use Rattle.std.specs.Option.{is_some}
use Rattle.lisa_tree.specs.Operations.{own_stage}
use Rattle.graph_paths.specs.Paths.{is_in}
use Rattle.stage_checks.proofs.running.inner_row.Given as goal

abbrev pub invariant-loop-node : goal.invariant-loop-node
invariant-loop-node g l = (b : ℕ) → is_in b l.row.items ≡ (is_in b (take l.node-index l.nodes) && not (is_some (own_stage (g.N.Names.tree l.names) b)))
