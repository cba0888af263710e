use Rattle.std.proofs.Common.{arith, ◌∙◌, rules}
use Rattle.stage_checks.specs.Graphs.{row_at}
use Rattle.stage_checks.proofs.Rows.{row_pushed}
use Rattle.stage_checks.proofs.Nodes.{rows_end}
use Rattle.stage_checks.proofs.activations.graph.Goals as goal

pub loop-node-preserved : goal.loop-node-preserved
loop-node-preserved g c = record {
  len = search (rules, c.in_ok-push.ensures.items);
  rows = λ a. rw c.in_ok-push.ensures.items (row_pushed c.loop-node.next.items _ (row_at (g.N.Names.tree c.args.names.now)) c.loop-node.node c.loop-node.invariant.len c.loop-node.invariant.rows c.in_ok-row_of.ensures a);
}

pub returns : goal.returns
returns g c = record {
  len = omega arith;
  rows = λ a. c.loop-node.invariant.rows a ∙ rows_end (g.N.Names.tree c.args.names.now) c.loop-node.node (omega arith) a;
}
