use Rattle.std.proofs.Common.{ℕ, ◌∙◌, ◌&&◌, not, arith, rules}
use Rattle.std.specs.Option.{is_some}
use Rattle.lisa_tree.specs.Operations.{own_stage}
use Rattle.graph_paths.specs.Paths.{is_in, targets}
use Rattle.stage_checks.proofs.Rows.{in_row_pushed, no_test, rows_within}
use Rattle.stage_checks.proofs.running.inner_edges.Goals as goal

pub loop-node-preserved : goal.loop-node-preserved
loop-node-preserved g c = record {
  len = search (rules, c.in_ok-push.ensures.items);
  rows = λ a b. rw c.in_ok-push.ensures.items (in_row_pushed c.loop-node.inner.items _ (λ (k : ℕ). is_in b (targets c.args.next.now k) && not (is_some (own_stage (g.N.Names.tree c.args.names.now) b))) c.loop-node.node b
      c.loop-node.invariant.len (λ k. c.loop-node.invariant.rows k b) (rw c.row.ensures at (c.in_ok-inner_row.ensures b)) a);
}

pub returns-clause-inner : goal.returns-clause-inner
returns-clause-inner g c = λ a b. c.loop-node.invariant.rows a b ∙ no_test _ _ _ (rows_within c.args.next.now c.loop-node.node a b (omega arith))
